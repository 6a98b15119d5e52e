-- Each act walked once: what it loads and stores, and that it gives back a sound state for a sound one, reports the line that CSR0 says
-- and never refuses a sound state with 9.
use Prim.Native.Nat.{ℕ, ◌+◌, ◌<◌}
use native.Mathlib.Omega.{arith}
use mathlib.Core.Path.{◌≡◌, refl, sym, ap, subst, ◌∙◌}
use mathlib.Core.Bool.{Bool, true, false, not, ◌&&◌, ◌||◌, or-true}
use mathlib.Core.List.{List}
use lib.ListN.{length}
use lib.Dec.{leb}
use borrow.Author.Tests.{ne_eqb}
use Rattle.std.specs.Prelude.{Ok, Err}
use Rattle.std.proofs.lemmas.Result.{IfErr-at_err}
use Rattle.bus.specs.Bits.{bit, weigh}
use Rattle.bus.specs.Bus.{Bus, Handed, empty_handed}
use Rattle.bus.specs.Within.{Within}
use Rattle.std.proofs.lemmas.Bool.{cond_both}
use Rattle.bus.proofs.Within.{so_if, within_done, within_then}
use Rattle.ring.specs.declared.Slot.{Slot}
use Rattle.ring.specs.declared.Ring.{Ring}
use Rattle.ring.specs.Slots.{slots}
use Rattle.ring.specs.Loading.{loaded}
use Rattle.ring.proofs.Loaded.{slot_within, moved_loaded}
use Rattle.registers.specs.Bits.{BABL, CERR, TINT, STOP, STRT}
use Rattle.registers.specs.Table.{no_register, locked, only_reads}
use Rattle.registers.proofs.Csr0s.{on_running, running_stays}
use Rattle.receive.specs.declared.Ending.{Ending}
use Rattle.receive.specs.declared.Ending.TheVariants.{Memory, Missed, Received, Cut}
use Rattle.receive.specs.Walk.{walk}
use Rattle.receive.proofs.Touching.{Looks, Fills, EndsIn, walk_within}
use Rattle.chain.proofs.Touching.{Reads, Gives}
use Rattle.transmit.specs.declared.Outcome.{Outcome}
use Rattle.transmit.specs.declared.Outcome.TheVariants.{Idle, OutOfMemory, Underflow, Failed, Sent}
use Rattle.transmit.specs.declared.Report.{Report}
use Rattle.transmit.specs.Turn.{turn}
use Rattle.transmit.proofs.Touching.{TurnIn, turn_within}
use Rattle.answers.specs.declared.Answer.{Answer}
use Rattle.answers.specs.declared.Event.{Event}
use Rattle.answers.specs.declared.Refusal.{Refusal}
use Rattle.answers.specs.Answers.{answer_number}
use Rattle.answers.specs.Refusals.{refusal_number, Tested, unless, read_tests, write_tests, arrive_tests, turn_tests}
use Rattle.answers.specs.Events.{arrival_event, turn_event}
use Rattle.answers.proofs.Tests.{Never9, arrive_sound, turn_sound, read_never_9, write_never_9, arrive_never_9, turn_never_9}
use Rattle.card.specs.declared.Card.{Card}
use Rattle.card.specs.declared.Reply.{Reply}
use Rattle.card.specs.State.{fresh, line}
use Rattle.card.specs.Sound.{sound}
use Rattle.card.specs.Replies.{replied, refused}
use Rattle.card.specs.Acts.{resetting, read_at, read_refusal, reading, write_refusal, writing}
use Rattle.card.specs.Arrival.{happened, arrived, take_in, arrival, arrive_refusal, arriving}
use Rattle.card.specs.Turning.{turned, take_turn, turn_if_on, turn_refusal, turning}
use Rattle.statements.specs.Soundly.{Bytes, Soundly}
use Rattle.statements.proofs.States.{Parts, apart, together, fresh_sound, Ready, ready, with_event}
use Rattle.statements.proofs.Writing.{InBlock, Nothing, write_within}

-- by a call's tests: a refusal, or what is so where nothing is refused
so_unless : {A : Type 0} (P : A → Type 0) (k : Tested) (f : Refusal → A) (x : A) → ((r : Refusal) → k ≡ Err r → P (f r)) → (k ≡ Ok tt → P x)
    → P (unless k f x)
unfolding unless
so_unless P (Ok _) f x p q = q refl
so_unless P (Err r) f x p q = p r refl

-- an answer, and a refusal
replied_soundly : (c : Card) (a : Answer) → answer_number a ≡ 0 → sound c ≡ true → Soundly (replied c a)
unfolding replied
replied_soundly c a h e = record { state = e; level = refl; number = omega arith }

refused_soundly : (c : Card) (k : Tested) (r : Refusal) → k ≡ Err r → Never9 k → sound c ≡ true → Soundly (refused c r)
unfolding refused
refused_soundly c k r t h e =
    let other : refusal_number r ≡ 9 → ⊥ = IfErr-at_err (λ q. refusal_number q ≡ 9 → ⊥) t h in
    record { state = e; level = ap (λ (b : Bool). not b && line c) (ne_eqb (refusal_number r) 9 other); number = other }

-- reset
pub resetting_sound : Soundly resetting
unfolding resetting
resetting_sound = replied_soundly fresh _ refl fresh_sound

-- a read
pub reading_sound : (c : Card) (offset : ℕ) → sound c ≡ true → Soundly (reading c offset)
unfolding reading read_at
reading_sound c offset e =
    so_unless Soundly (read_refusal c offset) _ _
    (λ r t. refused_soundly c _ r t (subst (λ (s : Bool). Never9 (read_tests s (no_register c.written.rap offset) (locked c.csr0.stop c.written.rap offset))) (sym e) (read_never_9 _ _)) e)
    (λ z. so_if Soundly _ _ _ (replied_soundly fresh _ refl fresh_sound) (so_if Soundly _ _ _ (replied_soundly c _ refl e) (replied_soundly c _ refl e)))

-- a write
abbrev Wrote : Card → List ℕ → List ℕ → Reply → Type 0
Wrote c m m' r = Bytes m → sound c ≡ true → Soundly r

pub writing_within : (c : Card) (n offset v : ℕ) (m : List ℕ)
    → Within (InBlock c) Nothing (Wrote c m) (writing c n offset v) m
unfolding writing
writing_within c n offset v m =
    so_unless (λ (p : Bus Reply). Within (InBlock c) Nothing (Wrote c m) p m) (write_refusal c n offset) _ _
    (λ r t. within_done (InBlock c) Nothing (Wrote c m) _ m (λ b e. refused_soundly c _ r t (subst (λ (s : Bool). Never9 (write_tests s n (no_register c.written.rap offset) (locked c.csr0.stop c.written.rap offset) (only_reads c.written.rap offset))) (sym e) (write_never_9 n _ _ _)) e))
    (λ z. within_then (InBlock c) Nothing (λ m' d. Bytes m → Parts c → Parts d) (Wrote c m) _ _ m (write_within c n v m offset)
    (λ d m' r p. within_done _ _ (Wrote c m) _ m' (λ b e. replied_soundly d _ refl (together d (p b (apart c e))))))

-- a card that has started
module _ (c : Card) (e : sound c ≡ true) (on : (c.csr0.rxon || c.csr0.txon) ≡ true) where
  started : Ready c
  started = ready c (apart c e) (on_running c.csr0 (apart c e).csr0 on).1

  -- an event leaves it sound
  happened_sound : (v : Event) (rx tx : Ring) → bit v.on STOP ≡ false → bit v.off STRT ≡ false → loaded rx ≡ true → loaded tx ≡ true
      → sound (happened c v rx tx) ≡ true
  unfolding happened
  happened_sound v rx tx a b h l =
      let go = on_running c.csr0 (apart c e).csr0 on in
      together _ (with_event c _ _ rx tx (apart c e) started (running_stays c.csr0 v.on v.off a b go.0 go.1) h l)

  arrived_sound : (i : Slot) (k : Ending) → i.0 < slots c.receive → Soundly (arrived c i k)
  unfolding arrived arrival_event
  arrived_sound i Memory h = replied_soundly _ _ refl (happened_sound _ _ _ refl refl (moved_loaded c.receive i started.receive h) started.transmit)
  arrived_sound i Missed h = replied_soundly _ _ refl (happened_sound _ _ _ refl refl (moved_loaded c.receive i started.receive h) started.transmit)
  arrived_sound i Received h = replied_soundly _ _ refl (happened_sound _ _ _ refl refl (moved_loaded c.receive i started.receive h) started.transmit)
  arrived_sound i Cut h = replied_soundly _ _ refl (happened_sound _ _ _ refl refl (moved_loaded c.receive i started.receive h) started.transmit)

  sent_bits_lem : (a b : Bool) → bit (TINT + weigh a CERR + weigh b BABL) STOP ≡ false
  unfolding weigh
  sent_bits_lem false false = refl
  sent_bits_lem false true = refl
  sent_bits_lem true false = refl
  sent_bits_lem true true = refl

  turned_sound : (q : Bool) (i : Slot) (o : Outcome) → i.0 < slots c.transmit → Soundly (turned c q i o)
  unfolding turned turn_event
  turned_sound q i Idle h = replied_soundly _ _ refl (happened_sound _ _ _ refl refl started.receive (moved_loaded c.transmit i started.transmit h))
  turned_sound q i OutOfMemory h = replied_soundly _ _ refl (happened_sound _ _ _ refl refl started.receive (moved_loaded c.transmit i started.transmit h))
  turned_sound q i Underflow h = replied_soundly _ _ refl (happened_sound _ _ _ refl refl started.receive (moved_loaded c.transmit i started.transmit h))
  turned_sound q i Failed h = replied_soundly _ _ refl (happened_sound _ _ _ refl refl started.receive (moved_loaded c.transmit i started.transmit h))
  turned_sound q i (Sent n) h =
      replied_soundly _ _ refl (happened_sound _ _ _ (sent_bits_lem q (leb 1519 n)) refl started.receive (moved_loaded c.transmit i started.transmit h))

-- an arrival
pub arriving_within : (c : Card) (n : ℕ) (f : List ℕ) (extra : ℕ) (m : List ℕ)
    → Within (Looks c.receive) (Fills c.receive) (λ m r. sound c ≡ true → Soundly r) (arriving c n f extra) m
unfolding arriving arrival take_in
arriving_within c n f extra m =
    so_unless Ok (arrive_refusal c n (length f) extra) _ _
    (λ r t. within_done _ _ _ _ m (λ e. refused_soundly c _ r t (subst (λ (s : Bool). Never9 (arrive_tests s n (length f) extra)) (sym e) (arrive_never_9 n (length f) extra)) e))
    (λ z. cond_both c.csr0.rxon _ _ Ok
    (λ on. so_if Ok _ _ _ (within_done _ _ _ _ m (replied_soundly c _ refl))
    (so_if Ok _ _ _ (took (arrive_sound (sound c) n (length f) extra z) (ap (λ (b : Bool). b || c.csr0.txon) on)) (within_done _ _ _ _ m (replied_soundly c _ refl))))
    (λ off. within_done _ _ _ _ m (replied_soundly c _ refl)))
  where
    Ok : Bus Reply → Type 0
    Ok p = Within (Looks c.receive) (Fills c.receive) (λ m r. sound c ≡ true → Soundly r) p m

    took : sound c ≡ true → (c.csr0.rxon || c.csr0.txon) ≡ true → Ok (take_in c n f extra)
    took e on =
        let h : c.receive.slot.0 < slots c.receive = slot_within c.receive (started c e on).receive in
        within_then _ _ (EndsIn c.receive) _ (walk n c.receive f _) _ m (walk_within n c.receive (omega arith) f _ m h)
        (λ w m' r l. within_done _ _ _ _ m' (λ s. arrived_sound c e on w.slot w.ending l))

-- a turn
pub turning_within : (c : Card) (n out : ℕ) (w : Report) (m : List ℕ)
    → Within (Reads c.transmit) (Gives c.transmit) (λ m h. sound c ≡ true → Soundly h.answer) (turning c n out w) m
unfolding turning turn_if_on take_turn empty_handed
turning_within c n out w m =
    so_unless Ok (turn_refusal c n out w.result) _ _
    (λ r t. within_done _ _ _ _ m (λ e. refused_soundly c _ r t (subst (λ (s : Bool). Never9 (turn_tests s n out w.result)) (sym e) (turn_never_9 n out w.result)) e))
    (λ z. cond_both c.csr0.txon _ _ Ok
    (λ on. took (turn_sound (sound c) n out w.result z) (ap (λ (b : Bool). c.csr0.rxon || b) on ∙ or-true c.csr0.rxon))
    (λ off. within_done _ _ _ _ m (replied_soundly c _ refl)))
  where
    Ok : Bus (Handed Reply) → Type 0
    Ok p = Within (Reads c.transmit) (Gives c.transmit) (λ m h. sound c ≡ true → Soundly h.answer) p m

    took : sound c ≡ true → (c.csr0.rxon || c.csr0.txon) ≡ true → Ok (take_turn c n w)
    took e on =
        let h : c.transmit.slot.0 < slots c.transmit = slot_within c.transmit (started c e on).transmit in
        within_then _ _ (TurnIn c.transmit) _ (turn n c.transmit c.mode w) _ m (turn_within c.transmit (omega arith) n c.mode w m h)
        (λ t m' r l. within_done _ _ _ _ m' (λ s. turned_sound c e on w.noheartbeat t.answer.slot t.answer.outcome l))
