-- The greatest of some numbers, the length of appended arrays, and ranks.
use Rattle.std.proofs.Common.{◌≡◌, ℕ, ◌+◌, true, false, List, [], ◌∷◌, ◌++◌, Option, Some, None, refl, sym, ap, ap₂, ◌∙◌, max, nat_lt, arith}
use Rattle.std.specs.List.{cons_option}
use Rattle.std.proofs.lemmas.List.Sums.{sum-map, sum_by-append}
use Rattle.ir_tables.specs.declared.linkage.Linkage.{Linkage}
use Rattle.ir_tables.specs.declared.linkage.Linkage.TheVariants.{External, Private, Internal, AvailableExternally, Linkonce, LinkonceOdr, Weak, WeakOdr, Common, Appending, ExternWeak}
use Rattle.linkage_rules.specs.Addresses.{joined_length}
use Rattle.linkage_rules.specs.Entries.{Entry}
use Rattle.linkage_rules.specs.Globals.{type_of, length_of}
use Rattle.linkage_rules.specs.Linkages.{is_common, is_appending, rank}
use Rattle.linkage_rules.specs.Lists.{greatest, greatest_from}

-- the greater of two that may be wanting
abbrev pub greater : Option ℕ → Option ℕ → Option ℕ
greater None o = o
greater (Some n) None = Some n
greater (Some n) (Some m) = Some (max n m)

max_first : (n m k : ℕ) → max n (max m k) ≡ max (max n m) k
max_first n m k = omega arith

greatest_turned : (n y : ℕ) (ys : List ℕ) → max y (greatest_from n ys) ≡ max n (greatest_from y ys)
greatest_turned n y [] = omega arith
greatest_turned n y (z ∷ zs) = let same = greatest_turned n y zs in omega (arith, same)

pub greatest_joined : (xs ys : List ℕ) → greatest (xs ++ ys) ≡ greater (greatest xs) (greatest ys)
greatest_joined [] ys = refl
greatest_joined (x ∷ xs) [] = ap (λ l. Some (greatest_from x l)) (append_nil xs)
  where
    append_nil : (zs : List ℕ) → zs ++ [] ≡ zs
    append_nil [] = refl
    append_nil (z ∷ zs) = ap (λ l. z ∷ l) (append_nil zs)
greatest_joined (x ∷ xs) (y ∷ ys) = ap Some (go x xs)
  where
    go : (n : ℕ) (ns : List ℕ)
        → greatest_from n (ns ++ y ∷ ys) ≡ max (greatest_from n ns) (greatest_from y ys)
    go n [] = greatest_turned n y ys
    go n (m ∷ ns) = ap (max m) (go n ns) ∙ max_first m (greatest_from n ns) (greatest_from y ys)

pub greatest_one : (o : Option ℕ) → greatest (cons_option o []) ≡ o
greatest_one None = refl
greatest_one (Some n) = refl

pub length_joined : (xs ys : List Entry)
    → joined_length (xs ++ ys) ≡ joined_length xs + joined_length ys
length_joined xs ys = sum-map own (xs ++ ys) ∙ sum_by-append own xs ys
    ∙ sym (ap₂ (λ n k. n + k) (sum-map own xs) (sum-map own ys))
  where
    own : Entry → ℕ
    own e = length_of (type_of e.global)

pub plain_common : (l : Linkage) → is_common l ≡ true → is_appending l ≡ false
plain_common Common h = refl
plain_common l h = cc

-- what is not common and gives way to none that is
pub above_common : (l : Linkage) → nat_lt (rank l) 3 ≡ false → is_common l ≡ false → rank l ≡ 4
above_common External h n = refl
above_common Private h n = refl
above_common Internal h n = refl
above_common AvailableExternally h n = cc
above_common Linkonce h n = cc
above_common LinkonceOdr h n = cc
above_common Weak h n = cc
above_common WeakOdr h n = cc
above_common Common h n = cc
above_common Appending h n = refl
above_common ExternWeak h n = cc

pub common_rank : (l : Linkage) → is_common l ≡ true → rank l ≡ 3
common_rank Common h = refl
common_rank l h = cc
