-- A map that gets the entries of another one in order has them in that order.
use Rattle.std.proofs.Common.{◌≡◌, ℕ, zero, suc, List, [], ◌∷◌, take, slice_get, Some, false, cond, bytes_eq, sym, ap, ◌∙◌, subst}
use Rattle.std.specs.List.{IsDistinct, AllByRecursion}
use Rattle.std.specs.Map.{keys_of}
use Rattle.std.specs.Cmp.Lexicographic.{bytes_decides}
use Rattle.std.proofs.lemmas.Bool.{false_from_ne_true, both_ways}
use Rattle.indexmap.specs.IndexMap.{insert_entry}
use Rattle.module_arena.specs.declared.entry.GlobalId.{GlobalId}
use Rattle.module_arena.proofs.Found.{some-equal, none≢some}

-- a key that comes later is another one
later : (first : List ℕ) (es : List (List ℕ × GlobalId)) (i : ℕ) (k : List ℕ) (v : GlobalId) → AllByRecursion (λ y. bytes_eq first y ≡ false) (keys_of es) → slice_get es i ≡ Some (k, v) → bytes_eq first k ≡ false
later first [] i k v all at = absurd (none≢some at)
later first (e ∷ es) zero k v all at = subst (λ (x : List ℕ × GlobalId). bytes_eq first x.0 ≡ false) (some-equal at) all.0
later first (e ∷ es) (suc i) k v all at = later first es i k v all.1 at

turned : (a b : List ℕ) → bytes_eq a b ≡ false → bytes_eq b a ≡ false
turned a b h = false_from_ne_true (bytes_eq b a) (λ e. both_ways (bytes_eq a b) h ((bytes_decides a b).1 (sym ((bytes_decides b a).0 e))))

pub insert_next : (es : List (List ℕ × GlobalId)) (i : ℕ) (k : List ℕ) (v : GlobalId) → IsDistinct bytes_eq (keys_of es) → slice_get es i ≡ Some (k, v)
    → insert_entry bytes_eq (take i es) k v ≡ take (suc i) es
unfolding IsDistinct
insert_next [] i k v distinct at = absurd (none≢some at)
insert_next (e ∷ es) zero k v distinct at = ap (λ (x : List ℕ × GlobalId). x ∷ []) (sym (some-equal at))
insert_next (e ∷ es) (suc i) k v distinct at =
    ap (λ b. cond b ((e.0, v) ∷ take i es) (e ∷ insert_entry bytes_eq (take i es) k v)) (turned e.0 k (later e.0 es i k v distinct.0 at))
    ∙ ap (λ xs. e ∷ xs) (insert_next es i k v distinct.1 at)
