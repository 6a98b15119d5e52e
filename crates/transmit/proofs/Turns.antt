-- The ways of a turn.
use mathlib.Core.Path.{◌≡◌, refl, sym, ap, ◌∙◌}
use mathlib.Core.List.{List, [], ◌++◌}
use mathlib.Core.Bool.{Bool, true, false, not, ◌||◌}
use Prim.Native.Nat.{ℕ, zero, suc, ◌+◌, ◌-◌, ◌/◌, ◌%◌, ◌≤◌, ◌<◌}
use native.Mathlib.Omega.{arith}
use lib.ListN.{length, drop, length-append}
use lib.Dec.{eqb}
use Rattle.std.specs.Array.{IsFirstChunk}
use Rattle.std.proofs.lemmas.List.{length-take-le, length-drop, take-append-drop, drop-append-le}
use Rattle.std.proofs.Common.{append_assoc}
use Rattle.bus.specs.Bits.{bit}
use Rattle.bus.specs.Words.{bytes_of, overwritten}
use Rattle.bus.specs.Bus.{run, Ended, done, reads, Handed, empty_handed, Left, leaves, ◌>>◌}
use Rattle.bus.proofs.Run.{run_done, run_if, run_else, run_reads, after}
use Rattle.ring.specs.declared.Slot.{Slot}
use Rattle.ring.specs.declared.Ring.{Ring}
use Rattle.ring.specs.declared.Descriptor.{Descriptor}
use Rattle.ring.specs.declared.Found.TheVariants.{Owned}
use Rattle.ring.specs.Slots.{slots, next, place}
use Rattle.ring.specs.Places.{descriptor}
use Rattle.ring.proofs.Finding.{found}
use Rattle.chain.specs.declared.Start.{Start}
use Rattle.chain.specs.declared.Start.TheVariants.{NoMemory, Nothing, Frame}
use Rattle.chain.specs.declared.Reach.{Reach}
use Rattle.chain.specs.declared.Close.{Close}
use Rattle.chain.specs.declared.Close.TheVariants.{Whole, Memory, Short, Long}
use Rattle.chain.specs.declared.Closed.{Closed}
use Rattle.transmit.specs.declared.Report.{Report}
use Rattle.transmit.specs.declared.Turned.{Turned}
use Rattle.transmit.specs.declared.Outcome.{Outcome}
use Rattle.transmit.specs.declared.Outcome.TheVariants.{Idle, OutOfMemory, Underflow, Failed, Sent}
use Rattle.transmit.specs.Report.{DXMTFCS, meant, hands_out, reported, reported_tmd3}
use Rattle.chain.specs.Start.{pass}
use Rattle.chain.specs.Chain.{read_chain}
use Rattle.chain.specs.Inner.Bounds.{Counted}
use Rattle.chain.specs.Inner.Laid.{buffer, buffers, Sendable, Ready}
use Rattle.transmit.specs.Turn.{without, handing, with_fcs, gather, give_back, send, ending, go_on, turn}
use Rattle.chain.proofs.Passing.{pass_owned, pass_some}
use Rattle.chain.proofs.Chains.{found_counted}
use Rattle.bus.proofs.Bytes.{written_front}
use Rattle.chain.proofs.Reaching.{chain_ready}

-- gathering gives the buffers, and leaves the memory
run_gather : (m : List ℕ) (ring : Ring) (k : ℕ) (i : Slot) → run (gather ring k i) m ≡ record { answer = buffers m ring k i; memory = m }
unfolding gather buffers buffer descriptor
run_gather m ring zero i = run_done [] m
run_gather m ring (suc k) i =
    after (reads (place ring i) 8) _ m m _ (run_reads (place ring i) 8 m)
    ∙ after (reads (descriptor ring m i).address (descriptor ring m i).count) _ m m (buffer m ring i) (run_reads _ _ m)
    ∙ after (gather ring k (next ring i)) _ m m _ (run_gather m ring k (next ring i))
    ∙ run_done _ m

-- a turn that hands nothing out leaves the slice
leaves_without : (m out : List ℕ) (o : Outcome) (i : Slot)
    → leaves (run (done (without o i)) m) out ≡ record { answer = record { outcome = o; slot = i }; memory = m; out = out }
unfolding leaves run without empty_handed
leaves_without m out o i = refl

-- .. and one that hands a frame out has it at the slice's start
leaves_handing : (m out out₁ f : List ℕ) (n : ℕ) (i : Slot) → n ≡ length f → out₁ ≡ overwritten out 0 f → length f ≤ length out
    → leaves (run (done (handing f i)) m) out ≡ record { answer = record { outcome = Sent n; slot = i }; memory = m; out = out₁ }
unfolding leaves run handing
leaves_handing m out out₁ f n i en eo h = rw (en, eo, written_front f out)

-- what is left in a slice's first n bytes is left in the slice
filled_front : (f room out ws : List ℕ) (n : ℕ) → IsFirstChunk out room n → length ws ≡ n → f ++ drop (length f) room ≡ ws
    → f ++ drop (length f) out ≡ ws ++ drop n out
filled_front f room out ws n k l e =
    let r : length room ≡ n = ap length k.same ∙ length-take-le n out k.enough in
    let h : length f + (length room - length f) ≡ n = rw (← length-drop (length f) room, ← length-append f (drop (length f) room)) (ap length e ∙ l) in
    let i : length f ≤ length room = omega arith in
    ap (λ (x : List ℕ). f ++ drop (length f) x) (sym (take-append-drop n out) ∙ ap (λ (x : List ℕ). x ++ drop n out) (sym k.same))
    ∙ ap (λ (x : List ℕ). f ++ x) (drop-append-le (length f) room (drop n out) i)
    ∙ sym (append_assoc f (drop (length f) room) (drop n out))
    ∙ ap (λ (x : List ℕ). x ++ drop n out) e

leaves_front : (e : Ended (Handed Turned)) (room out : List ℕ) (t : Turned) (m ws : List ℕ) (n : ℕ) → IsFirstChunk out room n → length ws ≡ n
    → leaves e room ≡ record { answer = t; memory = m; out = ws } → leaves e out ≡ record { answer = t; memory = m; out = ws ++ drop n out }
unfolding leaves
leaves_front e room out t m ws n k l h =
    let a : e.answer.answer ≡ t = ap (λ (x : Left Turned). x.answer) h in
    let b : e.memory ≡ m = ap (λ (x : Left Turned). x.memory) h in
    rw (a, b, filled_front e.answer.frame room out ws n k l (ap (λ (x : Left Turned). x.out) h))

-- a frame with its FCS has room
fcs_room : (append : Bool) (f out : List ℕ) → length f ≤ 4096 → 4100 ≤ length out → length (with_fcs append f) ≤ length out
unfolding with_fcs bytes_of
fcs_room true f out h l = rw length-append (omega arith)
fcs_room false f out h l = omega arith

-- a chain of k slots that was given back, after which the turn ends
module _ (m m₁ : List ℕ) (ring : Ring) (k says tmd3 : ℕ) (i : Slot) (e : run (give_back ring says tmd3 k i) m ≡ record { answer = tt; memory = m₁ }) where
  gave : (t : Handed Turned) → run (give_back ring says tmd3 k i >> done t) m ≡ run (done t) m₁
  unfolding ◌>>◌
  gave t = after (give_back ring says tmd3 k i) (λ a. done t) m m₁ tt e

  gave_without : (out : List ℕ) (o : Outcome) (j : Slot)
      → leaves (run (give_back ring says tmd3 k i >> done (without o j)) m) out
      ≡ record { answer = record { outcome = o; slot = j }; memory = m₁; out = out }
  gave_without out o j = ap (λ (x : Ended (Handed Turned)). leaves x out) (gave (without o j)) ∙ leaves_without m₁ out o j

-- the two ways of sending
module _ (m m₁ out : List ℕ) (ring : Ring) (w : Report) (says tmd3 : ℕ) (append hands : Bool) (i : Slot) (r : Reach)
    (es : says ≡ reported w) (et : tmd3 ≡ reported_tmd3 w) (eh : hands ≡ hands_out w)
    (back : run (give_back ring says tmd3 r.slots i) m ≡ record { answer = tt; memory = m₁ }) where
  pub send_failed : (o : Outcome) (out₁ : List ℕ) → hands ≡ false → o ≡ Failed → out₁ ≡ out
      → leaves (run (send ring w append i r) m) out
      ≡ record { answer = record { outcome = o; slot = r.slot }; memory = m₁; out = out₁ }
  unfolding send
  send_failed o out₁ h eo el =
      ap (λ (x : Ended (Handed Turned)). leaves x out) (run_else _ _ _ m (sym eh ∙ h))
      ∙ rw (← es, ← et, eo, el) (gave_without m m₁ ring r.slots says tmd3 i back out Failed r.slot)

  pub send_sent : (n : ℕ) (o : Outcome) (out₁ out₂ : List ℕ) → hands ≡ true → Sendable m ring r.slots i → 4100 ≤ length out
      → n ≡ length (with_fcs append (buffers m ring r.slots i))
      → out₁ ≡ overwritten out 0 (with_fcs append (buffers m ring r.slots i)) → o ≡ Sent n → out₂ ≡ out₁
      → leaves (run (send ring w append i r) m) out
      ≡ record { answer = record { outcome = o; slot = r.slot }; memory = m₁; out = out₂ }
  unfolding send
  send_sent n o out₁ out₂ h s l en el eo eq =
      rw (eo, eq)
      (ap (λ (x : Ended (Handed Turned)). leaves x out)
      (run_if _ _ _ m (sym eh ∙ h)
      ∙ after (gather ring r.slots i) _ m m (buffers m ring r.slots i) (run_gather m ring r.slots i)
      ∙ rw (← es, ← et) (gave m m₁ ring r.slots says tmd3 i back _))
      ∙ leaves_handing m₁ out out₁ (with_fcs append (buffers m ring r.slots i)) n r.slot en el
      (fcs_room append (buffers m ring r.slots i) out s.fits l))

-- a chain by how it ends
pub ready_is : (y : Close) (m : List ℕ) (ring : Ring) (k : ℕ) (i : Slot) (x : Close) → Ready m ring k i x → x ≡ y → Ready m ring k i y
ready_is y m ring k i x h e = rw e at h

module _ (m out : List ℕ) (ring : Ring) (w : Report) (append : Bool) (i : Slot) (x : Close) (r : Reach) where
  pub end_whole : (l : Left Turned) → x ≡ Whole → leaves (run (send ring w append i r) m) out ≡ l
      → leaves (run (ending ring w append i x r) m) out ≡ l
  unfolding ending
  end_whole l e h = rw e h

  pub end_memory : x ≡ Memory
      → leaves (run (ending ring w append i x r) m) out
      ≡ record { answer = record { outcome = OutOfMemory; slot = i }; memory = m; out = out }
  unfolding ending
  end_memory e = rw e (leaves_without m out OutOfMemory i)

  module _ (m₁ : List ℕ) (tmd3 : ℕ) (back : run (give_back ring 0x40 tmd3 r.slots i) m ≡ record { answer = tt; memory = m₁ }) where
    pub end_short : x ≡ Short → tmd3 ≡ 0xC000
        → leaves (run (ending ring w append i x r) m) out
        ≡ record { answer = record { outcome = Underflow; slot = r.slot }; memory = m₁; out = out }
    unfolding ending
    end_short e t = rw e (gave_without m m₁ ring r.slots 0x40 0xC000 i (rw t at back) out Underflow r.slot)

    pub end_long : x ≡ Long → tmd3 ≡ 0x4000
        → leaves (run (ending ring w append i x r) m) out
        ≡ record { answer = record { outcome = Underflow; slot = r.slot }; memory = m₁; out = out }
    unfolding ending
    end_long e t = rw e (gave_without m m₁ ring r.slots 0x40 0x4000 i (rw t at back) out Underflow r.slot)

-- a turn by what its start found
module _ (m m₁ out : List ℕ) (ring : Ring) (mode : ℕ) (w v : Report) (j : Slot) (s : Start) (ev : v ≡ meant mode w)
    (e : run (pass (length m) ring (slots ring) ring.slot) m ≡ record { answer = s; memory = m₁ }) where
  started : (s₁ : Start) → s ≡ s₁
      → leaves (run (turn (length m) ring mode w) m) out ≡ leaves (run (go_on (length m) ring v (not (bit mode DXMTFCS)) s₁) m₁) out
  unfolding turn
  started s₁ es =
      ap (λ (x : Ended (Handed Turned)). leaves x out)
      (after (pass (length m) ring (slots ring) ring.slot) (go_on (length m) ring (meant mode w) (not (bit mode DXMTFCS))) m m₁ s₁ (rw es at e)
      ∙ ap (λ (x : Report). run (go_on (length m) ring x (not (bit mode DXMTFCS)) s₁) m₁) (sym ev))

  pub turn_no_memory : s ≡ NoMemory j
      → leaves (run (turn (length m) ring mode w) m) out ≡ record { answer = record { outcome = OutOfMemory; slot = j }; memory = m₁; out = out }
  unfolding go_on
  turn_no_memory es = started (NoMemory j) es ∙ leaves_without m₁ out OutOfMemory j

  pub turn_nothing : s ≡ Nothing j
      → leaves (run (turn (length m) ring mode w) m) out ≡ record { answer = record { outcome = Idle; slot = j }; memory = m₁; out = out }
  unfolding go_on
  turn_nothing es = started (Nothing j) es ∙ leaves_without m₁ out Idle j

  module _ (d : Descriptor) (es : s ≡ Frame j d) where
    stands : run (pass (length m) ring (slots ring) ring.slot) m ≡ record { answer = Frame j d; memory = m₁ }
    stands = rw es at e

    owned : found (length m) ring j m₁ ≡ Owned d
    owned = pass_owned (length m) ring (slots ring) ring.slot j d m m₁ stands

    pub frame_counted : Counted d
    frame_counted = found_counted (length m) ring j m₁ d owned

    pub frame_some : 0 < slots ring
    frame_some = pass_some (length m) ring (slots ring) ring.slot j d m m₁ stands

    module _ (c : Closed) (l : length m₁ ≡ length m) (ec : run (read_chain (length m₁) ring j d) m₁ ≡ record { answer = c; memory = m₁ }) where
      pub frame_ready : Ready m₁ ring c.reach.slots j c.close
      frame_ready = chain_ready m₁ ring j d c (rw l owned) ec

      -- the frame goes into the slice's front
      pub turn_frame : (t : Turned) (m₂ room ws : List ℕ) → IsFirstChunk out room 4100 → length ws ≡ 4100
          → leaves (run (ending ring v (eqb (d.status / 32 % 2) 1 || not (bit mode DXMTFCS)) j c.close c.reach) m₁) room ≡ record { answer = t; memory = m₂; out = ws }
          → leaves (run (turn (length m) ring mode w) m) out ≡ record { answer = t; memory = m₂; out = ws ++ drop 4100 out }
      unfolding go_on
      turn_frame t m₂ room ws k lw h =
          started (Frame j d) es
          ∙ ap (λ (x : Ended (Handed Turned)). leaves x out) (after (read_chain (length m) ring j d) _ m₁ m₁ c (rw l at ec))
          ∙ leaves_front _ room out t m₂ ws 4100 k lw h
