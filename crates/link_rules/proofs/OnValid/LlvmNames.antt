-- A name that is given anew does not begin `llvm.`, where the name that it is made of does not.
use Rattle.std.proofs.Common.{◌≡◌, ℕ, zero, suc, ◌+◌, Bool, true, false, List, [], ◌∷◌, ◌++◌, map, length, Some, refl, sym, ap, ◌∙◌, subst, nat_eq, bytes_eq, codes}
use Rattle.std.specs.Prelude.{slice_get}
use Rattle.std.specs.Int.Digits.{digits_of}
use Rattle.std.proofs.lemmas.Bool.{and_right, and_parts, both_ways, false_from_ne_true, eqb-true, cond-true, cond-false}
use Rattle.std.proofs.lemmas.Option.{same_Some}
use Rattle.module_arena.specs.Module.{Bytes}
use Rattle.module_arena.specs.EntryRules.{is_llvm_name}
use Rattle.linkage_rules.specs.Lists.{has}
use Rattle.linkage_rules.specs.declared.symbol.Symbol.{Symbol}
use Rattle.linkage_rules.specs.declared.symbol.Symbol.TheVariants.{Shared, Local}
use Rattle.link_rules.specs.Rename.{dotted, least, fresh, new_name, with_given_names, base_of}
use Rattle.linkage_rules.specs.SymbolLaws.{name_self}

-- a byte of a name that begins with another one
pub dotted_plain : (n t : Bytes) → is_llvm_name n ≡ false → bytes_eq n (codes "llvm") ≡ false → is_llvm_name (n ++ 46 ∷ t) ≡ false
dotted_plain [] t h e = refl
dotted_plain (a ∷ []) t h e = and_right (nat_eq 108 a) _ refl
dotted_plain (a ∷ b ∷ []) t h e = and_right (nat_eq 108 a) _ (and_right (nat_eq 108 b) _ refl)
dotted_plain (a ∷ b ∷ c ∷ []) t h e = and_right (nat_eq 108 a) _ (and_right (nat_eq 108 b) _ (and_right (nat_eq 118 c) _ refl))
dotted_plain (a ∷ b ∷ c ∷ d ∷ []) t h e =
    false_from_ne_true _ (λ p.
    let one = and_parts (nat_eq 108 a) _ p in
    let two = and_parts (nat_eq 108 b) _ one.1 in
    let three = and_parts (nat_eq 118 c) _ two.1 in
    let four = and_parts (nat_eq 109 d) _ three.1 in
    let same : codes "llvm" ≡ a ∷ b ∷ c ∷ d ∷ [] = λ i. eqb-true 108 a one.0 i ∷ eqb-true 108 b two.0 i ∷ eqb-true 118 c three.0 i ∷ eqb-true 109 d four.0 i ∷ [] in
    both_ways _ e (subst (λ z. bytes_eq z (codes "llvm") ≡ true) same (name_self (codes "llvm"))))
dotted_plain (a ∷ b ∷ c ∷ d ∷ f ∷ n) t h e = h

number_plain : (n : Bytes) (k : ℕ) → is_llvm_name n ≡ false → bytes_eq n (codes "llvm") ≡ false → is_llvm_name (dotted n k) ≡ false
number_plain n k h e = dotted_plain n (map (λ d. d + 48) (digits_of 10 k)) h e

fresh_plain : (taken : List Bytes) (n : Bytes) → is_llvm_name n ≡ false → is_llvm_name (fresh taken (base_of n)) ≡ false
fresh_plain taken n h = go (bytes_eq n (codes "llvm")) refl
  where
    go : (b : Bool) → bytes_eq n (codes "llvm") ≡ b → is_llvm_name (fresh taken (base_of n)) ≡ false
    go true e = ap (λ z. is_llvm_name (fresh taken z)) (cond-true (bytes_eq n (codes "llvm")) (codes "llvm_") n e) ∙ number_plain (codes "llvm_") (least (length taken) taken (codes "llvm_") 1) refl refl
    go false e = ap (λ z. is_llvm_name (fresh taken z)) (cond-false (bytes_eq n (codes "llvm")) (codes "llvm_") n e) ∙ number_plain n (least (length taken) taken n 1) h e

pub new_name_plain : (everywhere given : List Bytes) (n : Bytes) → is_llvm_name n ≡ false → is_llvm_name (new_name base_of everywhere given n) ≡ false
new_name_plain everywhere given n h = go (has bytes_eq given n) refl
  where
    go : (b : Bool) → has bytes_eq given n ≡ b → is_llvm_name (new_name base_of everywhere given n) ≡ false
    go true e = ap is_llvm_name (cond-true (has bytes_eq given n) _ n e) ∙ fresh_plain (given ++ everywhere) n h
    go false e = ap is_llvm_name (cond-false (has bytes_eq given n) (fresh (given ++ everywhere) (base_of n)) n e) ∙ h

-- the name of a local symbol in the linked module
pub local_plain : (everywhere given : List Bytes) (ss : List Symbol) (k j : ℕ) (n m : Bytes) → slice_get (with_given_names base_of everywhere given ss) k ≡ Some (Local j n, m) → is_llvm_name n ≡ false → is_llvm_name m ≡ false
local_plain everywhere given [] k j n m at h = cc
local_plain everywhere given (Shared a ∷ ss) zero j n m at h = let same : Shared a ≡ Local j n = ap (λ r. r.0) (same_Some (Shared a, a) (Local j n, m) at) in cc
local_plain everywhere given (Local i a ∷ ss) zero j n m at h =
    let e = same_Some (Local i a, new_name base_of everywhere given a) (Local j n, m) at in
    let same : Local i a ≡ Local j n = ap (λ r. r.0) e in
    let name : a ≡ n = cc in
    ap is_llvm_name (sym (ap (λ r. r.1) e)) ∙ new_name_plain everywhere given a (ap is_llvm_name name ∙ h)
local_plain everywhere given (Shared a ∷ ss) (suc k) j n m at h = local_plain everywhere given ss k j n m at h
local_plain everywhere given (Local i a ∷ ss) (suc k) j n m at h = local_plain everywhere (new_name base_of everywhere given a ∷ given) ss k j n m at h
