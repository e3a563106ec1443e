-- What a layout spells is read back.
use Rattle.std.proofs.Common.{◌≡◌, ℕ, Bool, true, List, [], ◌∷◌, ◌++◌, length, Option, Some, None, refl, append_assoc}
use Rattle.std.specs.Prelude.{◌⊎◌, flat_map}
use Rattle.std.specs.List.{AllByRecursion}
use mathlib.Core.Logic.{inl, inr}
use Rattle.record_table.specs.Walk.{going, next}
use Rattle.record_table.specs.Layout.{Layout, number, nothing, mapped, asking, ◌&◌, ◌&>◌, counted, counted_some, option, either, either_by, indexed, many, option_by}
use Rattle.record_table.specs.Lays.{Lays}
use Rattle.record_table.specs.Listed.{IsListed, AreSome}

-- none, or a good one
abbrev pub IsGoodOption : {A : Type 0} → (A → Type 0) → Option A → Type 0
IsGoodOption good None = Unit {0}
IsGoodOption good (Some x) = good x

-- a good one of either kind
abbrev pub IsEither : {A B : Type 0} → (A → Type 0) → (B → Type 0) → A ⊎ B → Type 0
IsEither ga gb (inl x) = ga x
IsEither ga gb (inr y) = gb y

pub lays_number : Lays (λ n. Unit {0}) number
unfolding next
lays_number = record { back = λ n rest g. refl }

pub lays_asking : {A : Type 0} {good : A → Type 0} {l : Layout A} (rule : ℕ) (test : A → Bool) → Lays good l → Lays (λ x. good x × (test x ≡ true)) (asking rule test l)
lays_asking {l} rule test lays = record { back = λ x rest g. rw (lays.back x rest g.0) (rw g.1 refl) }

-- a number that a rule asks something of
pub lays_tested : (rule : ℕ) (test : ℕ → Bool) → Lays (λ n. test n ≡ true) (asking rule test number)
unfolding next
lays_tested rule test = record { back = λ n rest g. rw g refl }

pub lays_both : {A B : Type 0} {ga : A → Type 0} {gb : B → Type 0} {a : Layout A} {b : Layout B} → Lays ga a → Lays gb b → Lays (λ x. ga x.0 × gb x.1) (a & b)
lays_both {a} {b} la lb = record {
  back = λ x rest g.
      rw (append_assoc (a.spell x.0) (b.spell x.1) rest) (rw (la.back x.0 (b.spell x.1 ++ rest) g.0) (rw (lb.back x.1 rest g.1) refl));
}

pub lays_chain : {A B : Type 0} {ga : A → Type 0} {gb : A → B → Type 0} {a : Layout A} {f : A → Layout B} → Lays ga a → ((x : A) → ga x → Lays (gb x) (f x)) → Lays (λ x. ga x.0 × gb x.0 x.1) (a &> f)
lays_chain {a} {f} la lb = record {
  back = λ x rest g.
      rw (append_assoc (a.spell x.0) ((f x.0).spell x.1) rest) (rw (la.back x.0 ((f x.0).spell x.1 ++ rest) g.0) (rw ((lb x.0 g.0).back x.1 rest g.1) refl));
}

pub lays_mapped : {A B : Type 0} {good : A → Type 0} {l : Layout A} (to : A → B) (from : B → A) → Lays good l → Lays (λ b. good (from b) × (to (from b) ≡ b)) (mapped to from l)
lays_mapped {l} to from lays = record { back = λ b rest g. rw (lays.back (from b) rest g.0) (rw g.1 refl) }

pub lays_indexed : {A : Type 0} (same : A → A → Bool) (all : List A) (other : A) → Lays (IsListed same all other) (indexed same all other)
unfolding next
lays_indexed same all other = record { back = λ x rest g. rw (g.inside, g.found) refl }

pub lays_many : {A : Type 0} {good : A → Type 0} {l : Layout A} → Lays good l → (xs : List A) (rest : List ℕ) → AllByRecursion good xs
    → many l.read (length xs) (going (flat_map l.spell xs ++ rest) None) ≡ (xs, going rest None)
unfolding many
lays_many {l} lays [] rest g = refl
lays_many {l} lays (x ∷ xs) rest g =
    rw (append_assoc (l.spell x) (flat_map l.spell xs) rest, lays.back x (flat_map l.spell xs ++ rest) g.0, lays_many lays xs rest g.1) refl

pub lays_counted : {A : Type 0} {good : A → Type 0} {l : Layout A} → Lays good l → Lays (AllByRecursion good) (counted l)
unfolding next
lays_counted lays = record { back = λ xs rest g. lays_many lays xs rest g }

pub lays_option : {A : Type 0} {good : A → Type 0} {l : Layout A} → Lays good l → Lays (IsGoodOption good) (option l)
unfolding next option_by
lays_option {good} {l} lays = record { back = both } where
  both : (x : Option _) (rest : List ℕ) → IsGoodOption good x → (option l).read (going ((option l).spell x ++ rest) None) ≡ (x, going rest None)
  both None rest g = refl
  both (Some x) rest g = rw (lays.back x rest g) refl

pub lays_some : {A : Type 0} {good : A → Type 0} {l : Layout A} → Lays good l → Lays (AreSome good) (counted_some l)
unfolding next
lays_some {good} {l} lays = record { back = back } where
  back : (xs : List _) (rest : List ℕ) → AreSome good xs → (counted_some l).read (going ((counted_some l).spell xs ++ rest) None) ≡ (xs, going rest None)
  back [] rest g = elim g [ ]
  back (x ∷ xs) rest g = lays_many lays (x ∷ xs) rest g

pub lays_nothing : Lays (λ u. Unit {0}) nothing
lays_nothing = record { back = λ u rest g. refl }

pub lays_either : {A B : Type 0} {ga : A → Type 0} {gb : B → Type 0} {a : Layout A} {b : Layout B} → Lays ga a → Lays gb b → Lays (IsEither ga gb) (either a b)
unfolding next either_by
lays_either {ga} {gb} {a} {b} la lb = record { back = back } where
  back : (x : _ ⊎ _) (rest : List ℕ) → IsEither ga gb x → (either a b).read (going ((either a b).spell x ++ rest) None) ≡ (x, going rest None)
  back (inl x) rest g = rw (la.back x rest g) refl
  back (inr y) rest g = rw (lb.back y rest g) refl

-- where less is asked
pub lays_as : {A : Type 0} {less more : A → Type 0} {l : Layout A} → ((x : A) → less x → more x) → Lays more l → Lays less l
lays_as from lays = record { back = λ x rest g. lays.back x rest (from x g) }
