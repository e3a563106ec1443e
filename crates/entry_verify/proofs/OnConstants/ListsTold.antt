-- Which lists have the parts of a type.
use Rattle.std.proofs.Common.{◌≡◌, ℕ, Bool, true, false, ◌&&◌, ◌==◌, List, map, length, refl, sym, ap, ◌∙◌, true≢false}
use Rattle.std.specs.List.{list_all}
use Rattle.std.specs.Cmp.{unsigned_Decides}
use Rattle.std.proofs.lemmas.List.{length-map}
use Rattle.std.proofs.lemmas.List.Folds.{list_all-map}
use Rattle.std.proofs.lemmas.Bool.Decides.{same_from_decides}
use Rattle.type_table.specs.Tree.{Tree, int, ptr, void, array, struct, named, Trees}
use Rattle.module_arena.specs.Module.{Brackets}
use Rattle.module_arena.specs.Module.Brackets.{Square, Braces, Packed}
use Rattle.module_arena.specs.Constants.{expected}
use Rattle.module_arena.specs.Same.{same_type}
use Rattle.entry_verify.specs.Types.Opened.{has_no_parts}
use Rattle.entry_verify.specs.Constants.ConstantParts.{have_types, are_types, is_square, are_brackets_of}

flipped : (n m : ℕ) → (n == m) ≡ (m == n)
flipped n m = same_from_decides (n == m) (m == n) (unsigned_Decides n m) ((λ e. sym ((unsigned_Decides m n).0 e)), (λ e. (unsigned_Decides m n).1 (sym e)))

pub array_parts : {X : Type 0} (f : X → Tree) (round : Brackets) (n : ℕ) (t : Tree) (xs : List X)
    → (is_square round && ((length xs == n) && list_all (λ (x : X). same_type t (f x)) xs)) ≡ have_types (expected round (array n t)) (map f xs)
array_parts f Square n t xs =
    (λ j. (flipped (length xs) n ∙ ap (λ k. n == k) (sym (length-map xs f))) j && sym (list_all-map (same_type t) f xs) j)
array_parts f Braces n t xs = refl
array_parts f Packed n t xs = refl

pub struct_parts : (round : Brackets) (packed : Bool) (ts : Trees) (us : List Tree) → (are_brackets_of round packed && are_types ts us) ≡ have_types (expected round (struct packed ts)) us
struct_parts Square true ts us = refl
struct_parts Square false ts us = refl
struct_parts Braces true ts us = refl
struct_parts Braces false ts us = refl
struct_parts Packed true ts us = refl
struct_parts Packed false ts us = refl

pub no_parts : (round : Brackets) (u : Tree) (us : List Tree) → has_no_parts u ≡ true → false ≡ have_types (expected round u) us
no_parts Square (int w) us h = refl
no_parts Square ptr us h = refl
no_parts Square void us h = refl
no_parts Square (array n t) us h = absurd (true≢false (sym h))
no_parts Square (struct p ts) us h = absurd (true≢false (sym h))
no_parts Square (named x) us h = refl
no_parts Braces (int w) us h = refl
no_parts Braces ptr us h = refl
no_parts Braces void us h = refl
no_parts Braces (array n t) us h = absurd (true≢false (sym h))
no_parts Braces (struct p ts) us h = absurd (true≢false (sym h))
no_parts Braces (named x) us h = refl
no_parts Packed (int w) us h = refl
no_parts Packed ptr us h = refl
no_parts Packed void us h = refl
no_parts Packed (array n t) us h = absurd (true≢false (sym h))
no_parts Packed (struct p ts) us h = absurd (true≢false (sym h))
no_parts Packed (named x) us h = refl
