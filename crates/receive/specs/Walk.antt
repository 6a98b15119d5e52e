-- A frame's way through the receive ring, from the current slot on. It is read from the bottom: `walk` is the whole way.
use Rattle.std.specs.Prelude.{ℕ, zero, suc, ◌+◌, ◌-◌, List, length, take, drop, leb, ltb}
use Rattle.std.specs.Prelude.{if◌then◌else◌}
use Rattle.bus.specs.Words.{bytes_of}
use Rattle.bus.specs.Bus.{Bus, done, store, bytes, ◌>>=◌, ◌>>◌}
use Rattle.ring.specs.declared.Slot.{Slot}
use Rattle.ring.specs.declared.Ring.{Ring}
use Rattle.ring.specs.declared.Descriptor.{Descriptor}
use Rattle.ring.specs.Slots.{slots, next, place}
use Rattle.ring.specs.Status.{ERR, STP}
use Rattle.ring.specs.Descriptor.{look, by◌outside:◌not_owned:◌owned:◌}
use Rattle.receive.specs.declared.Walked.{Walked}
use Rattle.receive.specs.declared.Ending.{Ending}
use Rattle.receive.specs.declared.Ending.TheVariants.{Memory, Missed, Received, Cut}
use Rattle.receive.specs.Status.{BUFF}

-- how the walk ended, and the slot that is current then
unfoldable pub walked : Ending → Slot → Walked
walked e i = record { ending = e; slot = i }

-- "Only descriptor byte 3 .. [is] written": it takes a status
unfoldable pub status : Ring → Slot → ℕ → Bus (Unit {0})
status r i s = store (place r i + 3) s (done tt)

-- ".. and bytes 6 and 7 with ENP": MCNT is "the whole length"
unfoldable pub mcnt : Ring → Slot → ℕ → Bus (Unit {0})
mcnt r i k = bytes (place r i + 6) (bytes_of 2 k)

-- a slot takes its status, and the walk ends: the next slot is current
unfoldable pub leave : Ring → Slot → ℕ → Ending → Bus Walked
leave r i s e = status r i s >> done (walked e (next r i))

-- "Not owned: the current status is ERR and BUFF, RINT, "cut", and the next slot is current."
unfoldable pub cut : Ring → Slot → ℕ → Bus Walked
cut r i stp = leave r i (stp + ERR + BUFF) Cut

-- "If the frame ends, status is ENP and MCNT the whole length; RINT; the slot after it is current; "received".": a frame of
-- k bytes, with the status `end`
unfoldable pub ended : Ring → ℕ → ℕ → Slot → ℕ → Bus Walked
ended r k end i stp = mcnt r i k >> leave r i (stp + end) Received

-- "Outside memory: the current one is first released without ERR or ENP, then MERR."
unfoldable pub merr : Ring → Slot → ℕ → Bus Walked
merr r i stp = leave r i stp Memory

-- "If not, the next slot is read. Outside memory: .. Not owned: .. Owned: the current one is released without ERR or ENP,
-- and the walk goes on", in a memory of n bytes
unfoldable pub beyond : ℕ → Ring → Slot → ℕ → (Slot → Descriptor → Bus Walked) → Bus Walked
beyond n r i stp on =
    look n r (next r i)
    >>= (λ found.
    by found
    outside: (merr r i stp)
    not_owned: (cut r i stp)
    owned: (λ e. status r i stp >> on (next r i) e))

-- a frame f with the status `end` where it ends, in a memory of n bytes
module _ (n : ℕ) (r : Ring) (f : List ℕ) (end : ℕ) where
  -- "buffer not wholly inside, MERR. Then the buffer takes what fits, from its start. If the frame ends, .. If not," the
  -- rest of the walk
  unfoldable pub takes : Slot → Descriptor → List ℕ → ℕ → Bus Walked → Bus Walked
  takes i d rest stp otherwise =
      if ltb n (d.address + d.count)
      then done (walked Memory i)
      else
      (bytes d.address (take d.count rest)
      >> (if leb (length rest) d.count then ended r (length f) end i stp else otherwise))

  -- a slot that the card owns, with the frame's bytes `rest` and `left` slots that the frame may still use after it.
  -- "The next slot counts as not owned when the frame has used as many slots as the ring has. .. STP is in the first only."
  unfoldable pub fill : ℕ → Slot → Descriptor → List ℕ → ℕ → Bus Walked
  fill zero i d rest stp = takes i d rest stp (cut r i stp)
  fill (suc left) i d rest stp =
      takes i d rest stp (beyond n r i stp (λ j e. fill left j e (drop d.count rest) 0))

  -- "The current descriptor is read: outside memory, MERR; OWN clear, MISS .. "missed""
  unfoldable pub walk : Bus Walked
  walk =
      look n r r.slot
      >>= (λ found.
      by found
      outside: (done (walked Memory r.slot))
      not_owned: (done (walked Missed r.slot))
      owned: (λ d. fill (slots r - 1) r.slot d f STP))
