-- CSR0 with nothing but STOP set, by its bits and by comparing it with the one after reset.
use mathlib.Core.Path.{◌≡◌, refl}
use mathlib.Core.Bool.{Bool, true, false, not, beq, ◌&&◌, ◌||◌, and_assoc}
use Rattle.registers.specs.declared.Csr0.{Csr0}
use Rattle.registers.specs.Csr0.{stopped, others}

-- what a derived comparison of two gives
abbrev same : Csr0 → Csr0 → Bool
same a b =
    beq a.babl b.babl
    && (beq a.cerr b.cerr
    && (beq a.miss b.miss
    && (beq a.merr b.merr
    && (beq a.rint b.rint
    && (beq a.tint b.tint
    && (beq a.idon b.idon
    && (beq a.iena b.iena
    && (beq a.rxon b.rxon
    && (beq a.txon b.txon && (beq a.tdmd b.tdmd && (beq a.stop b.stop && (beq a.strt b.strt && beq a.init b.init))))))))))))

is_clear : (b : Bool) → beq b false ≡ not b
is_clear true = refl
is_clear false = refl

not_either : (a b : Bool) → not (a || b) ≡ (not a && not b)
not_either true b = refl
not_either false b = refl

nothing_else : (s : Csr0) (stop : Bool) → s.stop ≡ stop → (not stop || same s stopped) ≡ not (stop && others s)
nothing_else s true e = simp (e, is_clear, not_either, and_assoc)
nothing_else s false e = refl

pub still_is : (s t : Csr0) (b : Bool) → t ≡ stopped → b ≡ same s t → (not s.stop || b) ≡ not (s.stop && others s)
still_is s t b e f = rw (f, e) (nothing_else s s.stop refl)
