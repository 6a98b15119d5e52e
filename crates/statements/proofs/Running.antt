-- From reset every state is sound, so 9 is never given by value, and the line is always what CSR0 says.
use Prim.Native.Nat.{ℕ}
use mathlib.Core.Path.{◌≡◌}
use mathlib.Core.Bool.{true}
use mathlib.Core.List.{List, [], ◌∷◌}
use lib.ListN.{length}
use Rattle.bus.specs.Bus.{Handed, empty_handed}
use Rattle.bus.specs.Within.{Within}
use Rattle.bus.proofs.Within.{keeps_ends, within_done, within_then}
use Rattle.bus.proofs.Secret.{within_ends}
use Rattle.receive.proofs.Touching.{Looks, Fills}
use Rattle.chain.proofs.Touching.{Reads, Gives}
use Rattle.card.specs.declared.Card.{Card}
use Rattle.card.specs.declared.Reply.{Reply}
use Rattle.card.specs.State.{fresh}
use Rattle.card.specs.Sound.{sound}
use Rattle.statements.specs.Soundly.{Bytes, Soundly}
use Rattle.statements.specs.Runs.{Call, reset, read, write, arrive, turn, act, step, Lent, after}
use Rattle.statements.proofs.States.{fresh_sound}
use Rattle.statements.proofs.Writing.{InBlock}
use Rattle.statements.proofs.Acts.{resetting_sound, reading_sound, writing_within, arriving_within, turning_within}

-- what a call loads and stores, by the act
abbrev pub loads : Call → Card → List ℕ → ℕ → Type 0
loads reset c m a = ⊥
loads (read offset) c m a = ⊥
loads (write offset v) c m a = InBlock c m a
loads (arrive f extra) c m a = Looks c.receive m a
loads (turn out w) c m a = Reads c.transmit m a

abbrev pub stores : Call → Card → List ℕ → ℕ → ℕ → Type 0
stores reset c m a b = ⊥
stores (read offset) c m a b = ⊥
stores (write offset v) c m a b = ⊥
stores (arrive f extra) c m a b = Fills c.receive m a b
stores (turn out w) c m a b = Gives c.transmit m a b

-- a call's reply, where memory held bytes and the state was sound
abbrev pub Said : Card → List ℕ → List ℕ → Handed Reply → Type 0
Said c m₀ m h = Bytes m₀ → sound c ≡ true → Soundly h.answer

-- each call keeps within its bounds
pub act_within : (call : Call) (c : Card) (n : ℕ) (m : List ℕ) → Within (loads call c) (stores call c) (Said c m) (act call c n) m
unfolding act empty_handed
act_within reset c n m = within_done _ _ _ _ m (λ b e. resetting_sound)
act_within (read offset) c n m = within_done _ _ _ _ m (λ b e. reading_sound c offset e)
act_within (write offset v) c n m =
    within_then _ _ (λ m' r. Bytes m → sound c ≡ true → Soundly r) _ _ _ m (writing_within c n offset v m) (λ r m' e h. within_done _ _ _ _ m' h)
act_within (arrive f extra) c n m =
    within_then _ _ (λ m' r. sound c ≡ true → Soundly r) _ _ _ m (arriving_within c n f extra m) (λ r m' e h. within_done _ _ _ _ m' (λ b. h))
act_within (turn out w) c n m =
    keeps_ends _ _ (λ m' h. sound c ≡ true → Soundly h.answer) _ _ _ _ m (λ m' h d b. d) (turning_within c n out w m)

-- each call with a sound state
pub step_sound : (call : Call) (c : Card) (m : List ℕ) → Bytes m → sound c ≡ true → Soundly (step call c m).answer.answer
unfolding step
step_sound call c m b e = within_ends _ _ (Said c m) (act call c (length m)) m (act_within call c (length m) m) b e

-- the state after some calls
after_sound : (c : Card) (ls : List Lent) → sound c ≡ true → sound (after c ls) ≡ true
unfolding after
after_sound c [] e = e
after_sound c (l ∷ ls) e = after_sound (step l.call c l.memory).answer.answer.card ls (step_sound l.call c l.memory l.bytes e).state

pub state_sound : (ls : List Lent) → sound (after fresh ls) ≡ true
state_sound ls = after_sound fresh ls fresh_sound

-- .. and the reply to the next
pub reply_sound : (ls : List Lent) (l : Lent) → Soundly (step l.call (after fresh ls) l.memory).answer.answer
reply_sound ls l = step_sound l.call _ l.memory l.bytes (state_sound ls)
