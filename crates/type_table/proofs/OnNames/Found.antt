-- What a map of borrowed names has for a name, in plain lists.
use Rattle.std.specs.Prelude.{◌≡◌, refl, ℕ, Bool, true, false, List, [], ◌∷◌, Some, bytes_eq, cond}
use Rattle.std.specs.Borrow.{Bor}
use Rattle.std.specs.Map.{lookup}
use Rattle.std.proofs.Common.{ap, sym, ◌∙◌}
use Rattle.std.proofs.lemmas.Slice.Eq.{bytes_eq-Decides}
use Rattle.indexmap.specs.IndexMap.{insert_entry}
use Rattle.type_table.specs.Names.Entries.{entries_in, value_of}

-- what the map finds is what stands beside the name
pub found : {V : Type 0} (es : List (Bor (List ℕ) × V)) (name : List ℕ) → lookup (λ (k : Bor (List ℕ)). bytes_eq name k.now) es ≡ value_of (entries_in es) name
found [] name = refl
found (e ∷ es) name = ap (cond (bytes_eq name e.0.now) (Some e.1)) (found es name)

-- equal names are equal to the same names
pub same_for : (a b other : List ℕ) → bytes_eq a b ≡ true → bytes_eq other b ≡ bytes_eq other a
same_for a b other e = ap (bytes_eq other) (sym ((bytes_eq-Decides a b).0 e))

-- which of two equal tests is asked first plays no part
cond_same : {A : Type 0} (b c : Bool) (x y z : A) → b ≡ c → cond b x z ≡ cond c x (cond b y z)
cond_same true true x y z e = refl
cond_same false false x y z e = refl
cond_same true false x y z e = absurd cc
cond_same false true x y z e = absurd cc

cond_other : {A : Type 0} (b c : Bool) (x y z : A) → (b ≡ true → c ≡ true → x ≡ y) → cond b x (cond c y z) ≡ cond c y (cond b x z)
cond_other true true x y z e = e refl refl
cond_other true false x y z e = refl
cond_other false c x y z e = refl

-- the map after a name is given a value
pub given : {V : Type 0} (es : List (Bor (List ℕ) × V)) (key : Bor (List ℕ)) (value : V) (other : List ℕ)
    → value_of (entries_in (insert_entry (λ (a b : Bor (List ℕ)). bytes_eq a.now b.now) es key value)) other ≡ cond (bytes_eq other key.now) (Some value) (value_of (entries_in es) other)
given [] key value other = refl
given (e ∷ es) key value other = by (bytes_eq key.now e.0.now) refl (given es key value other)
  where
    there : bytes_eq key.now e.0.now ≡ true
        → cond (bytes_eq other e.0.now) (Some value) (value_of (entries_in es) other) ≡ cond (bytes_eq other key.now) (Some value) (cond (bytes_eq other e.0.now) (Some e.1) (value_of (entries_in es) other))
    there same = cond_same _ _ _ _ _ (same_for key.now e.0.now other same)

    apart : bytes_eq key.now e.0.now ≡ false → bytes_eq other e.0.now ≡ true → bytes_eq other key.now ≡ true → Some e.1 ≡ Some value
    apart different here there =
        let a = (bytes_eq-Decides other e.0.now).0 here in
        let b = (bytes_eq-Decides other key.now).0 there in
        let same = (bytes_eq-Decides key.now e.0.now).1 (sym b ∙ a) in
        absurd cc

    by : (b : Bool) → bytes_eq key.now e.0.now ≡ b
        → value_of (entries_in (insert_entry (λ (a b : Bor (List ℕ)). bytes_eq a.now b.now) es key value)) other ≡ cond (bytes_eq other key.now) (Some value) (value_of (entries_in es) other)
        → value_of (entries_in (cond b ((e.0, value) ∷ es) (e ∷ insert_entry (λ (a b : Bor (List ℕ)). bytes_eq a.now b.now) es key value))) other
        ≡ cond (bytes_eq other key.now) (Some value) (cond (bytes_eq other e.0.now) (Some e.1) (value_of (entries_in es) other))
    by true same again = there same
    by false different again = ap (cond (bytes_eq other e.0.now) (Some e.1)) again ∙ cond_other _ _ _ _ _ (apart different)
