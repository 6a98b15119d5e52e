-- Each contract of the C entries leaves one number and one block, and one memory and one outgoing slice where it writes them.
use mathlib.Core.Path.{sym, ◌∙◌, ap}
use mathlib.Core.List.{List}
use Prim.Native.Nat.{ℕ}
use Rattle.bus.proofs.Only.{OnlyWith}
use Rattle.am79c960.proofs.am79c960_entry_reset.Reads as reset
use Rattle.am79c960.proofs.am79c960_entry_read.Reads as read
use Rattle.am79c960.proofs.am79c960_entry_write.Reads as write
use Rattle.am79c960.proofs.am79c960_entry_arrive.Reads as arrive
use Rattle.am79c960.proofs.am79c960_entry_turn.Reads as turn

-- the act "reset"
pub one_reset : OnlyWith {H = List ℕ} reset.Post (λ κs e. e.0.now)
one_reset κs a r s e f p q = (ap (λ t. t.result) (sym p ∙ q), ap (λ t. t.block) (sym p ∙ q))

-- the act "register read"
pub one_read : OnlyWith {H = List ℕ} read.Post (λ κs e. e.0.now)
one_read κs a r s e f p q = (ap (λ t. t.result) (sym p ∙ q), ap (λ t. t.block) (sym p ∙ q))

-- the act "register write"
pub one_write : OnlyWith {H = List ℕ} write.Post (λ κs e. e.0.now)
one_write κs a r s e f p q = (ap (λ t. t.answer.result) (sym p ∙ q), ap (λ t. t.answer.block) (sym p ∙ q))

-- the act "frame arrival"
pub one_arrive : OnlyWith {H = List ℕ × List ℕ} arrive.Post (λ κs e. (e.0.now, e.1.0.now))
one_arrive κs a r s e f p q = (ap (λ t. t.answer.result) (sym p ∙ q), ap (λ t. (t.answer.block, t.memory)) (sym p ∙ q))

-- the act "transmit turn"
pub one_turn : OnlyWith {H = List ℕ × List ℕ × List ℕ} turn.Post (λ κs e. (e.0.now, e.1.0.now, e.1.1.0.now))
one_turn κs a r s e f p q =
    (ap (λ t. t.answer.result) (sym p ∙ q), ap (λ t. (t.answer.block, t.memory, t.out)) (sym p ∙ q))
