-- `fcs::fold::Waiting::finish` meets its contract: five words are shifted out, and then none waits.
-- Assumes nothing.
use mathlib.Core.Path.{◌∙◌, ap}
use mathlib.Core.List.{[], ◌∷◌}
use borrow.Author.Rules.{rules}
use Rattle.fcs.specs.Waiting.{words, after}
use Rattle.fcs.proofs.Afters.{after_one}
use Rattle.fcs.proofs.Chunks.{five_chunks}
use Rattle.fcs.proofs.fold.Waiting.finish.Goals as goal

pub returns : goal.returns
unfolding after words
returns c = let p = c.args.self in
    c.over.ensures
    ∙ after_one c.args.rest.now c.absorb-5.result c.type_inv.rest
    ∙ c.absorb-5.ensures 0 [] _ (search rules)
    ∙ c.absorb-4.ensures p.e (0 ∷ []) _ (search rules)
    ∙ c.absorb-3.ensures p.d (p.e ∷ 0 ∷ []) _ (search rules)
    ∙ c.absorb-2.ensures p.c (p.d ∷ p.e ∷ 0 ∷ []) _ (search rules)
    ∙ c.absorb.ensures p.b (p.c ∷ p.d ∷ p.e ∷ 0 ∷ []) _ (search rules)
    ∙ ap (after (p.a ∷ p.b ∷ p.c ∷ p.d ∷ p.e ∷ [])) (five_chunks c.args.words.now c.args.rest.now c.told-words)
