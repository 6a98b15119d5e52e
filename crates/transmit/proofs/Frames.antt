-- A frame that is gathered from its buffers.
use mathlib.Core.Path.{◌≡◌, sym, ap, ◌∙◌}
use mathlib.Core.List.{List, [], ◌++◌}
use mathlib.Core.Bool.{Bool, true, false}
use Prim.Native.Nat.{ℕ, suc, ◌+◌, ◌-◌, ◌≤◌, ◌<◌}
use native.Mathlib.Nat.{zero-add}
use native.Mathlib.Omega.{arith}
use lib.ListN.{length, take, length-append}
use Rattle.fcs.specs.Fcs.{fcs_of}
use Rattle.bus.specs.Words.{bytes_of, part, overwritten}
use Rattle.bus.proofs.Bytes.{length_part}
use Rattle.ring.specs.declared.Slot.{Slot}
use Rattle.ring.specs.declared.Ring.{Ring}
use Rattle.ring.specs.declared.Descriptor.{Descriptor}
use Rattle.ring.specs.Slots.{next, place}
use Rattle.ring.specs.Descriptor.{described}
use Rattle.ring.specs.Places.{descriptor}
use Rattle.chain.specs.Inner.Laid.{later, buffer, buffers, Inside, Laid}
use Rattle.transmit.specs.Turn.{with_fcs}
use Rattle.bus.proofs.Bytes.{written_more, take_written}

-- a slot's buffer, by the descriptor d that was read at p
module _ (m : List ℕ) (ring : Ring) (p : ℕ) (i : Slot) (d : Descriptor) (ep : p ≡ place ring i) (ed : d ≡ described (part m p 8)) where
  is_descriptor : d ≡ descriptor ring m i
  unfolding descriptor
  is_descriptor = ed ∙ ap (λ (x : ℕ). described (part m x 8)) ep

  is_buffer : part m d.address d.count ≡ buffer m ring i
  unfolding buffer
  is_buffer = ap (λ (x : Descriptor). part m x.address x.count) is_descriptor

  long : d.count ≡ length (buffer m ring i)
  long = sym (length_part d.count d.address m) ∙ ap length is_buffer

  pub buffer_inside : Inside m ring i → d.address + d.count ≤ length m
  buffer_inside h = rw is_descriptor h.filled

  module _ (at : ℕ) (out : List ℕ) where
    pub buffer_room : at + length (buffer m ring i) ≤ length out → at + d.count ≤ length out
    buffer_room h = rw long h

    pub buffer_place : at + d.count ≡ at + length (buffer m ring i)
    buffer_place = ap (λ (x : ℕ). at + x) long

    pub buffer_written : (out' : List ℕ) → out' ≡ overwritten out at (part m d.address d.count) → out' ≡ overwritten out at (buffer m ring i)
    buffer_written out' e = e ∙ ap (overwritten out at) is_buffer

-- the first of the slots that are left after k of them, and the rest
module _ (m : List ℕ) (ring : Ring) (all k : ℕ) (i : Slot) (h : k < all) where
  pub laid_first : Laid m ring (all - k) i → Inside m ring i
  unfolding later
  laid_first l = l.at 0 (omega arith)

  pub laid_rest : (j : Slot) → Laid m ring (all - k) i → j ≡ next ring i → Laid m ring (all - (k + 1)) j
  unfolding later
  laid_rest j l e = rw e (record { at = λ x y. l.at (suc x) (omega arith) })

  buffers_split : buffers m ring (all - k) i ≡ buffer m ring i ++ buffers m ring (all - (k + 1)) (next ring i)
  unfolding buffers
  buffers_split = let e : all - k ≡ suc (all - (k + 1)) = omega arith in ap (λ (x : ℕ). buffers m ring x i) e

  buffers_long : length (buffers m ring (all - k) i) ≡ length (buffer m ring i) + length (buffers m ring (all - (k + 1)) (next ring i))
  buffers_long = ap length buffers_split ∙ length-append (buffer m ring i) (buffers m ring (all - (k + 1)) (next ring i))

  -- n is the whole frame's length, and w what the slice comes to
  module _ (at n : ℕ) (out w : List ℕ) (sum : at + length (buffers m ring (all - k) i) ≡ n)
      (whole : overwritten out at (buffers m ring (all - k) i) ≡ w) where
    pub gather_room : (out₀ : List ℕ) → n ≤ length out₀ → length out ≡ length out₀ → at + length (buffer m ring i) ≤ length out
    gather_room out₀ l e = omega (arith, buffers_long)

    module _ (at' : ℕ) (j : Slot) (ea : at' ≡ at + length (buffer m ring i)) (ej : j ≡ next ring i) where
      pub gather_sum : at' + length (buffers m ring (all - (k + 1)) j) ≡ n
      gather_sum = rw ej (omega (arith, buffers_long))

      pub gather_on : (out' : List ℕ) → out' ≡ overwritten out at (buffer m ring i) → overwritten out' at' (buffers m ring (all - (k + 1)) j) ≡ w
      gather_on out' eo =
          rw (eo, ea, ej) (written_more (buffer m ring i) _ out at ∙ ap (overwritten out at) (sym buffers_split) ∙ whole)

-- .. and where no slot is left
module _ (m : List ℕ) (ring : Ring) (all k : ℕ) (i : Slot) (at n : ℕ) (out w : List ℕ) (h : all ≤ k)
    (sum : at + length (buffers m ring (all - k) i) ≡ n) (whole : overwritten out at (buffers m ring (all - k) i) ≡ w) where
  none : buffers m ring (all - k) i ≡ []
  unfolding buffers
  none = let e : all - k ≡ 0 = omega arith in ap (λ (x : ℕ). buffers m ring x i) e

  pub gather_end : at ≡ n
  gather_end = omega (arith, ap length none)

  pub gather_whole : out ≡ w
  unfolding overwritten
  gather_whole = sym (ap (overwritten out at) none) ∙ whole

-- the FCS
pub fcs_written : (out out₁ : List ℕ) (n x : ℕ) → x ≡ fcs_of (take n out) → out₁ ≡ overwritten out n (bytes_of 4 x)
    → out₁ ≡ overwritten out n (bytes_of 4 (fcs_of (take n out)))
fcs_written out out₁ n x e e₁ = e₁ ∙ ap (λ (y : ℕ). overwritten out n (bytes_of 4 y)) e

-- a frame f in the slice, and its FCS behind it where it is asked for
module _ (f out out₁ : List ℕ) (n : ℕ) (append : Bool) (en : n ≡ length f) (eo : out₁ ≡ overwritten out 0 f) where
  pub fcs_long : append ≡ true → n + 4 ≡ length (with_fcs append f)
  unfolding with_fcs bytes_of
  fcs_long t = rw (t, length-append, en)

  pub fcs_behind : (out₂ : List ℕ) → append ≡ true → length f ≤ 4096 → 4100 ≤ length out
      → out₂ ≡ overwritten out₁ n (bytes_of 4 (fcs_of (take n out₁))) → out₂ ≡ overwritten out 0 (with_fcs append f)
  unfolding with_fcs
  fcs_behind out₂ t l o e =
      let h : length f ≤ length out = omega arith in
      let z : 0 + length f ≡ length f = zero-add (length f) in
      rw t
      (e ∙ rw (eo, en, take_written f out h)
      (ap (λ (k : ℕ). overwritten (overwritten out 0 f) k (bytes_of 4 (fcs_of f))) (sym z) ∙ written_more f (bytes_of 4 (fcs_of f)) out 0))

  pub bare_long : append ≡ false → n ≡ length (with_fcs append f)
  unfolding with_fcs
  bare_long t = rw t en

  pub bare_written : append ≡ false → out₁ ≡ overwritten out 0 (with_fcs append f)
  unfolding with_fcs
  bare_written t = rw t eo
