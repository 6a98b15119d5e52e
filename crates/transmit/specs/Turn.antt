-- A transmit turn on the ring. It is read from the bottom: `turn` is the whole turn.
use Rattle.std.specs.Prelude.{ℕ, zero, suc, ◌+◌, ◌-◌, Bool, not, ◌||◌, List, [], ◌++◌, length}
use Rattle.fcs.specs.Fcs.{fcs_of}
use Rattle.std.specs.Prelude.{if◌then◌else◌}
use Rattle.bus.specs.Bits.{bit}
use Rattle.bus.specs.Words.{bytes_of}
use Rattle.bus.specs.Bus.{Bus, done, load, store, reads, bytes, Handed, empty_handed, ◌>>=◌, ◌>>◌}
use Rattle.ring.specs.declared.Slot.{Slot}
use Rattle.ring.specs.declared.Ring.{Ring}
use Rattle.ring.specs.Slots.{slots, next, place}
use Rattle.ring.specs.Status.{ERR, without_own}
use Rattle.ring.specs.Descriptor.{described}
use Rattle.chain.specs.declared.Start.{Start}
use Rattle.chain.specs.declared.Start.TheVariants.{NoMemory, Nothing, Frame}
use Rattle.chain.specs.declared.Reach.{Reach}
use Rattle.chain.specs.declared.Close.{Close}
use Rattle.chain.specs.declared.Close.TheVariants.{Whole, Memory, Short, Long}
use Rattle.chain.specs.Status.{ADD_FCS}
use Rattle.chain.specs.Start.{pass}
use Rattle.chain.specs.Chain.{read_chain}
use Rattle.transmit.specs.declared.Outcome.{Outcome}
use Rattle.transmit.specs.declared.Outcome.TheVariants.{Idle, OutOfMemory, Underflow, Failed, Sent}
use Rattle.transmit.specs.declared.Turned.{Turned}
use Rattle.transmit.specs.declared.Report.{Report}
use Rattle.transmit.specs.Report.{TMD3_BUFF, UFLO, DXMTFCS, meant, stays, hands_out, reported, reported_tmd3}

-- a turn that hands nothing out
unfoldable pub without : Outcome → Slot → Handed Turned
without o i = empty_handed (record { outcome = o; slot = i })

-- a turn that hands a frame out: the answer is ""sent" with the length handed out"
unfoldable pub handing : List ℕ → Slot → Handed Turned
handing f i = record { answer = record { outcome = Sent (length f); slot = i }; frame = f }

-- "The FCS is appended if ADD_FCS is set in the first descriptor or DXMTFCS .. is clear."
unfoldable pub with_fcs : Bool → List ℕ → List ℕ
with_fcs append f = if append then f ++ bytes_of 4 (fcs_of f) else f

-- the last slot of a chain: TMD3, then the status, in which OWN is 0 and ERR, MORE, ONE and DEF are as said
unfoldable pub finish : Ring → ℕ → ℕ → Slot → Bus (Unit {0})
finish r says tmd3 i =
    load (place r i + 3) (λ s.
    bytes (place r i + 6) (bytes_of 2 tmd3) >> store (place r i + 3) (stays s + says) (done tt))

-- the buffers of k slots, each behind its descriptor
unfoldable pub gather : Ring → ℕ → Slot → Bus (List ℕ)
gather r zero i = done []
gather r (suc k) i =
    reads (place r i) 8
    >>= (λ bs.
    reads (described bs).address (described bs).count
    >>= (λ buffer. gather r k (next r i) >>= (λ rest. done (buffer ++ rest))))

-- "All other slots of either chain lose OWN only": k slots, and the slot after them
unfoldable pub release : Ring → ℕ → Slot → Bus Slot
release r zero i = done i
release r (suc k) i =
    load (place r i + 3) (λ s. store (place r i + 3) (without_own s) (release r k (next r i)))

-- a chain of k slots is given back
unfoldable pub give_back : Ring → ℕ → ℕ → ℕ → Slot → Bus (Unit {0})
give_back r says tmd3 k i = release r (k - 1) i >>= finish r says tmd3

-- a frame whose chain is whole, with a wire report
unfoldable pub send : Ring → Report → Bool → Slot → Reach → Bus (Handed Turned)
send r w append i c =
    if hands_out w
    then (gather r c.slots i
    >>= (λ f. give_back r (reported w) (reported_tmd3 w) c.slots i >> done (handing (with_fcs append f) c.slot)))
    else (give_back r (reported w) (reported_tmd3 w) c.slots i >> done (without Failed c.slot))

-- "On MERR the frame's first slot stays current. Underflow ends the chain at its slot: there OWN, MORE, ONE and DEF become 0,
-- ERR is set, and TMD3 is UFLO (bit 14) and, except for the total, BUFF (bit 15)."
unfoldable pub ending : Ring → Report → Bool → Slot → Close → Reach → Bus (Handed Turned)
ending r w append i Whole c = send r w append i c
ending r w append i Memory c = done (without OutOfMemory i)
ending r w append i Short c = give_back r ERR (UFLO + TMD3_BUFF) c.slots i >> done (without Underflow c.slot)
ending r w append i Long c = give_back r ERR UFLO c.slots i >> done (without Underflow c.slot)

-- what the start found, in a memory of n bytes; `always` is DXMTFCS being clear
unfoldable pub go_on : ℕ → Ring → Report → Bool → Start → Bus (Handed Turned)
go_on n r w always (NoMemory i) = done (without OutOfMemory i)
go_on n r w always (Nothing i) = done (without Idle i)
go_on n r w always (Frame i d) =
    read_chain n r i d
    >>= (λ c. ending r w (bit d.status ADD_FCS || always) i c.close c.reach)

-- a turn from the current slot on, by MODE and the wire report
unfoldable pub turn : ℕ → Ring → ℕ → Report → Bus (Handed Turned)
turn n r mode w = pass n r (slots r) r.slot >>= go_on n r (meant mode w) (not (bit mode DXMTFCS))
