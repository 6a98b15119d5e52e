-- What a program compares, its tally, and how the tally is printed.
use Rattle.std.specs.Prelude.{ℕ, ◌+◌, ◌%◌, ◌^◌, Bool, true, false, ◌&&◌, List, [], ◌∷◌, ◌++◌, ◌==◌, codes}
use Rattle.std.specs.Fmt.{decimal}
use Rattle.tally.specs.declared.Tally.{Tally}

-- nothing yet
abbrev pub nothing : Tally
nothing = record { run = 0; wrong = 0 }

-- one thing more, right or wrong, in 64 bits
unfoldable pub one_more : Tally → Bool → Tally
one_more t true = record { run = (t.run + 1) % 2 ^ 64; wrong = t.wrong }
one_more t false = record { run = (t.run + 1) % 2 ^ 64; wrong = (t.wrong + 1) % 2 ^ 64 }

-- how many, the word, how many wrong
abbrev pub told : Tally → List ℕ
told t = decimal t.run ++ (codes " wrong " ++ decimal t.wrong)

-- whether two lists are the same
unfoldable pub alike : List ℕ → List ℕ → Bool
alike [] [] = true
alike [] (y ∷ ys) = false
alike (x ∷ xs) [] = false
alike (x ∷ xs) (y ∷ ys) = x == y && alike xs ys
