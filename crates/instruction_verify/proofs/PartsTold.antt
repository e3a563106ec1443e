-- What the indices of `extractvalue` and `insertvalue` lead to.
use Rattle.std.proofs.Common.{◌≡◌, ℕ, zero, suc, ◌+◌, ◌<◌, ◌≤◌, true, false, List, [], ◌∷◌, drop, length, get_or, slice_get, Some, None, refl, sym, ap, ◌∙◌, arith, cond, true≢false}
use Rattle.std.specs.Prelude.{nat_lt}
use Rattle.std.specs.Option.{option_and_then}
use Rattle.std.proofs.lemmas.Bool.{false_from_ne_true}
use Rattle.std.proofs.lemmas.Bool.Decides.{Decides-ltb}
use Rattle.std.proofs.lemmas.Option.{none-some, same_Some, slice_get-get_or}
use Rattle.type_table.specs.Tree.{Tree, int, ptr, void, array, struct, named, Structs}
use Rattle.module_arena.specs.TypeTests.{opened, part_at, part_type}
use Rattle.entry_verify.specs.Types.Opened.{has_no_parts}

pub element_part : (u t : Tree) (n k : ℕ) → u ≡ array n t → k < n → Some t ≡ part_type u k
element_part u t n k e lt = sym (ap (λ v. part_type v k) e ∙ ap (λ b. cond b (Some t) None) ((Decides-ltb k n).1 lt))

pub no_element : (u t : Tree) (n k : ℕ) → u ≡ array n t → n ≤ k → None ≡ part_type u k
no_element u t n k e le =
    let past : nat_lt k n ≡ false = false_from_ne_true (nat_lt k n) (λ h. let q = (Decides-ltb k n).0 h in absurd (omega (arith, q, le))) in
    sym (ap (λ v. part_type v k) e ∙ ap (λ b. cond b (Some t) None) past)

pub no_part : (u : Tree) (k : ℕ) → has_no_parts u ≡ true → None ≡ part_type u k
no_part (int w) k e = refl
no_part ptr k e = refl
no_part void k e = refl
no_part (array n t) k e = absurd (true≢false (sym e))
no_part (struct packed ts) k e = absurd (true≢false (sym e))
no_part (named name) k e = refl

-- ---- one index after the other

left_from : (ks : List ℕ) (i k : ℕ) → slice_get ks i ≡ Some k → drop i ks ≡ k ∷ drop (suc i) ks
left_from [] i k e = absurd (none-some k e)
left_from (l ∷ ks) zero k e = ap (λ z. z ∷ ks) (same_Some l k e)
left_from (l ∷ ks) (suc i) k e = left_from ks i k e

left_is : (ks : List ℕ) (i k : ℕ) → i < length ks → k ≡ get_or ks i k → drop i ks ≡ k ∷ drop (i + 1) ks
left_is ks i k lt is =
    let next : suc i ≡ i + 1 = omega arith in
    left_from ks i k (slice_get-get_or ks i k lt ∙ ap Some (sym is)) ∙ ap (λ n. k ∷ drop n ks) next

pub parts_on : (s : Structs) (t u : Tree) (ks : List ℕ) (i k : ℕ) → i < length ks → k ≡ get_or ks i k → part_type (opened s t) k ≡ Some u → part_at s u (drop (i + 1) ks) ≡ part_at s t (drop i ks)
parts_on s t u ks i k lt is e =
    sym (ap (part_at s t) (left_is ks i k lt is) ∙ ap (option_and_then (λ part. part_at s part (drop (i + 1) ks))) e)

pub parts_nowhere : (s : Structs) (t : Tree) (ks : List ℕ) (i k : ℕ) → i < length ks → k ≡ get_or ks i k → part_type (opened s t) k ≡ None → None ≡ part_at s t (drop i ks)
parts_nowhere s t ks i k lt is e =
    sym (ap (part_at s t) (left_is ks i k lt is) ∙ ap (option_and_then (λ part. part_at s part (drop (i + 1) ks))) e)
