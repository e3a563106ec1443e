-- Lists of ids that grow with the arena.
use Rattle.std.proofs.Common.{◌≡◌, ℕ, ◌+◌, ◌<◌, List, [], ◌∷◌, ◌++◌, map, length, get_or, take, refl, sym, ap, ◌∙◌, subst, arith}
use Rattle.std.proofs.lemmas.List.{map-append, map_more}
use Rattle.std.proofs.lemmas.List.Elements.{All-push}
use Rattle.type_table.specs.Tree.{Tree}
use Rattle.type_table.specs.Types.{trees}
use Rattle.module_arena.specs.declared.constant.TypedConst.{TypedConst}
use Rattle.module_arena.specs.Lists.{Lists}
use Rattle.module_arena.specs.Module.{Constant}
use Rattle.module_arena.specs.View.{type_at}
use Rattle.item_build.specs.Types.Stands.{IsType, AreTypes, IsKnownTyped, typed_at, AreTyped, IsTyped, Grows}
use Rattle.item_build.proofs.OnTypes.Growing.{types_stay, typed_stay}

pub no_types : (a : Lists) → AreTypes a [] []
no_types a = record { known = λ k d lt. absurd (omega arith); trees = refl }

pub types_more : (a b : Lists) → Grows a b → (ids : List ℕ) (ts : List Tree) (id : ℕ) (t : Tree) → AreTypes a ids ts → IsType b id t → AreTypes b (ids ++ id ∷ []) (ts ++ t ∷ [])
types_more a b grows ids ts id t all one =
    let old = types_stay a b grows ids ts all in
    record {
      known = All-push (λ k. k < length b.table.types) ids id old.known one.known;
      trees = map-append (type_at (trees b.table)) ids (id ∷ []) ∙ (λ j. old.trees j ++ one.tree j ∷ []);
    }

pub no_typed : (a : Lists) → AreTyped a [] []
no_typed a = record { known = λ k d lt. absurd (omega arith); constants = refl }

pub typed_more : (a b : Lists) → Grows a b → (ids : List TypedConst) (cs : List (Tree × Constant)) (id : TypedConst) (c : Tree × Constant) → AreTyped a ids cs → IsTyped b id c → AreTyped b (ids ++ id ∷ []) (cs ++ c ∷ [])
typed_more a b grows ids cs id c all one =
    let old = typed_stay a b grows ids cs all in
    record {
      known = All-push (IsKnownTyped b) ids id old.known (one.ty.known, one.value.known);
      constants = map-append (typed_at b) ids (id ∷ []) ∙ (λ j. old.constants j ++ (one.ty.tree j, one.value.constant j) ∷ []);
    }

-- one more of a loop over the items of a list
pub types_step : {X : Type 0} (f : X → Tree) (xs : List X) (i : ℕ) (x : X) → i < length xs → x ≡ get_or xs i x
    → (a b : Lists) → Grows a b → (ids more : List ℕ) (id : ℕ) → AreTypes a ids (map f (take i xs)) → IsType b id (f x) → more ≡ ids ++ id ∷ [] → AreTypes b more (map f (take (i + 1) xs))
types_step f xs i x lt is a b grows ids more id all one pushed =
    let step : map f (take (i + 1) xs) ≡ map f (take i xs) ++ f x ∷ [] = map_more f xs i x lt ∙ ap (λ y. map f (take i xs) ++ f y ∷ []) (sym is) in
    subst (λ ns. AreTypes b ns (map f (take (i + 1) xs))) (sym pushed)
    (subst (λ ts. AreTypes b (ids ++ id ∷ []) ts) (sym step) (types_more a b grows ids (map f (take i xs)) id (f x) all one))

pub typed_step : {X : Type 0} (f : X → Tree × Constant) (xs : List X) (i : ℕ) (x : X) → i < length xs → x ≡ get_or xs i x
    → (a b : Lists) → Grows a b → (ids more : List TypedConst) (id : TypedConst) → AreTyped a ids (map f (take i xs)) → IsTyped b id (f x) → more ≡ ids ++ id ∷ [] → AreTyped b more (map f (take (i + 1) xs))
typed_step f xs i x lt is a b grows ids more id all one pushed =
    let step : map f (take (i + 1) xs) ≡ map f (take i xs) ++ f x ∷ [] = map_more f xs i x lt ∙ ap (λ y. map f (take i xs) ++ f y ∷ []) (sym is) in
    subst (λ ns. AreTyped b ns (map f (take (i + 1) xs))) (sym pushed)
    (subst (λ ts. AreTyped b (ids ++ id ∷ []) ts) (sym step) (typed_more a b grows ids (map f (take i xs)) id (f x) all one))
