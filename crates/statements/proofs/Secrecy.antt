-- Demand 3, over whole runs.
use mathlib.Core.Path.{◌≡◌, refl, ap, subst}
use mathlib.Core.Logic.{⊎_elim}
use mathlib.Core.List.{List, [], ◌∷◌}
use Prim.Native.Nat.{ℕ}
use lib.ListN.{length}
use Rattle.bus.specs.Bus.{run, Handed}
use Rattle.bus.specs.Secrecy.{Agree, Apart, Secret}
use Rattle.bus.proofs.Secret.{secret}
use Rattle.ring.specs.Places.{InRing, InBuffer}
use Rattle.chain.proofs.Since.{Since, since_start, since_given, since_buffer}
use Rattle.card.specs.declared.Card.{Card}
use Rattle.card.specs.declared.Reply.{Reply}
use Rattle.card.specs.State.{fresh}
use Rattle.statements.specs.Runs.{Call, reset, read, write, arrive, turn, act, step}
use Rattle.statements.specs.Premise.{Premise, block, receiving, transmitting, sending}
use Rattle.statements.specs.Twice.{Twice, Agreed, Same}
use Rattle.statements.proofs.Running.{Said, act_within}

-- one call: what it may load is in the premise
one_call : (call : Call) (c : Card) (n : ℕ) (m₁ m₂ : List ℕ) → Agree (Premise c m₁) m₁ m₂ → Secret (act call c n) m₁ m₂
one_call reset c n m₁ m₂ g =
    secret _ _ (λ m. Unit {0}) (λ m m' a b u q v. tt) (Premise c m₁) (λ m a u q. absurd q) (Said c m₁) _ m₁ m₂ tt (act_within reset c n m₁) g
one_call (read offset) c n m₁ m₂ g =
    secret _ _ (λ m. Unit {0}) (λ m m' a b u q v. tt) (Premise c m₁) (λ m a u q. absurd q) (Said c m₁) _ m₁ m₂ tt (act_within (read offset) c n m₁) g
one_call (write offset v) c n m₁ m₂ g =
    secret _ _ (λ m. Unit {0}) (λ m m' a b u q v. tt) (Premise c m₁) (λ m a u q. block q.from q.to) (Said c m₁) _ m₁ m₂ tt
    (act_within (write offset v) c n m₁) g
one_call (arrive f extra) c n m₁ m₂ g =
    secret _ _ (λ m. Unit {0}) (λ m m' a b u q v. tt) (Premise c m₁) (λ m a u q. receiving q) (Said c m₁) _ m₁ m₂ tt (act_within (arrive f extra) c n m₁) g
one_call (turn out w) c n m₁ m₂ g =
    secret _ _ (Since c.transmit m₁) (since_given c.transmit m₁) (Premise c m₁)
    (λ m a s. ⊎_elim (λ (q : InRing c.transmit a). transmitting q) (λ (q : InBuffer c.transmit m a). sending (since_buffer c.transmit m₁ m a s q)))
    (Said c m₁) _ m₁ m₂ (since_start c.transmit m₁) (act_within (turn out w) c n m₁) g

-- .. in memories of one length
one_step : (call : Call) (c : Card) (m₁ m₂ : List ℕ) → Agree (Premise c m₁) m₁ m₂
    → ((step call c m₁).answer ≡ (step call c m₂).answer) × Apart m₁ m₂ (step call c m₁).memory (step call c m₂).memory
unfolding step
one_step call c m₁ m₂ g =
    let s : Secret (act call c (length m₁)) m₁ m₂ = one_call call c (length m₁) m₁ m₂ g in
    subst
    (λ (n : ℕ).
    ((run (act call c (length m₁)) m₁).answer ≡ (run (act call c n) m₂).answer)
    × Apart m₁ m₂ (run (act call c (length m₁)) m₁).memory (run (act call c n) m₂).memory)
    g.lengths
    (s.answers, s.bytes)

-- calls from one state
same_runs : (c d : Card) (ts : List Twice) → c ≡ d → Agreed c ts → Same c d ts
unfolding Agreed Same
same_runs c d [] e g = tt
same_runs c d (t ∷ ts) e g =
    let s : ((step t.call c t.one).answer ≡ (step t.call d t.two).answer) × Apart t.one t.two (step t.call c t.one).memory (step t.call d t.two).memory =
    subst (λ (x : Card). ((step t.call c t.one).answer ≡ (step t.call x t.two).answer) × Apart t.one t.two (step t.call c t.one).memory (step t.call x t.two).memory) e
    (one_step t.call c t.one t.two g.0) in
    (s.0, s.1, same_runs (step t.call c t.one).answer.answer.card (step t.call d t.two).answer.answer.card ts (ap (λ (x : Handed Reply). x.answer.card) s.0) g.1)

-- demand 3: two runs from reset
pub demand_3 : (ts : List Twice) → Agreed fresh ts → Same fresh fresh ts
demand_3 ts g = same_runs fresh fresh ts refl g
