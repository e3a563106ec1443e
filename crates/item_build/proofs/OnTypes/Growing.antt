-- Adding a type or a constant leaves what each id stands for, and gives the next id to what was added.
use Rattle.std.proofs.Common.{◌≡◌, ℕ, zero, suc, ◌+◌, ◌<◌, List, [], ◌∷◌, ◌++◌, length, slice_get, Option, Some, None, IfSome, Result, Ok, Err, OnOk, refl, sym, ap, ◌∙◌, subst, arith}
use Rattle.std.specs.List.{fold}
use Rattle.std.proofs.lemmas.List.{length_push, get_or_append_left, get_or_at, append_assoc, append-nil}
use Rattle.std.proofs.lemmas.Option.{get_or_from_slice_get, slice_get_within}
use Rattle.std.proofs.lemmas.List.Elements.{All-weaker}
use Rattle.type_table.specs.declared.ir_type.IrType.{IrType}
use Rattle.type_table.specs.declared.ir_type.IrType.TheVariants.{Void}
use Rattle.type_table.specs.Tree.{Tree, void}
use Rattle.type_table.specs.Types.{names, trees, tree_of, with_type}
use Rattle.type_table.specs.Types as types
use Rattle.type_table.proofs.Added.{length-trees, trees-with}
use Rattle.type_table.proofs.Outlined.{tree-is}
use Rattle.module_arena.specs.declared.constant.Const.{Const}
use Rattle.module_arena.specs.declared.constant.TypedConst.{TypedConst}
use Rattle.module_arena.specs.declared.entry.GlobalId.{GlobalId}
use Rattle.module_arena.specs.Lists.{Lists, name_at}
use Rattle.module_arena.specs.Module.{Bytes, Constant}
use Rattle.module_arena.specs.Known.{Counts, counts, AllKnownConsts, IsGood}
use Rattle.module_arena.specs.View.{type_at, constant_at, constant_view, grow, constants_of, module_of}
use Rattle.module_arena.specs.Changes.{with_table, with_constant, constant_in}
use Rattle.module_arena.proofs.Found.{some-equal}
use Rattle.module_arena.proofs.ModuleOf.{fold-same, length-constants_of, constants_of-push, module_of-constant}
use Rattle.module_arena.proofs.SameView.{same-map, constant_view-same}
use Rattle.item_build.specs.Types.Stands.{IsType, AreTypes, IsConstant, IsKnownTyped, typed_at, AreTyped, IsTyped, Grows}

pub grows_not : (a : Lists) → Grows a a
grows_not a = record { structs = refl; variables = refl; aliases = refl; functions = refl; types = λ id t h. h; constants = λ id c h. h; same = refl }

pub grows_on : (a b c : Lists) → Grows a b → Grows b c → Grows a c
grows_on a b c x y = record {
  structs = y.structs ∙ x.structs;
  variables = y.variables ∙ x.variables;
  aliases = y.aliases ∙ x.aliases;
  functions = y.functions ∙ x.functions;
  types = λ id t h. y.types id t (x.types id t h);
  constants = λ id c h. y.constants id c (x.constants id c h);
  same = y.same ∙ x.same;
}

-- ---- what is added

module _ (a : Lists) (ty : IrType) (good : IsGood a) where
  abbrev typed : Lists
  typed = with_table a (with_type a.table ty)

  abbrev made : Tree
  made = tree_of (names a.table) (trees a.table) ty

  tree_kept : (id : ℕ) → id < length a.table.types → type_at (trees (with_type a.table ty)) id ≡ type_at (trees a.table) id
  tree_kept id lt =
      let long = length-trees a.table in
      ap (λ us. type_at us id) (trees-with a.table ty) ∙ get_or_append_left (trees a.table) (made ∷ []) void id (omega (arith, long, lt))

  constants_kept : constants_of typed ≡ constants_of a
  constants_kept = fold-same (trees a.table) (trees (with_type a.table ty)) (length a.table.types) tree_kept (name_at a) (name_at a) (counts a) (λ g h. refl) [] a.constants good.constants

  pub grows_by_type : module_of typed ≡ module_of a → Grows a typed
  grows_by_type same = record {
    structs = refl;
    variables = refl;
    aliases = refl;
    functions = refl;
    types = λ id t h. record { known = (let lt = h.known in let e = length_push a.table.types ty in omega (arith, e, lt)); tree = tree_kept id h.known ∙ h.tree };
    constants = λ id c h. record { known = h.known; constant = ap (λ cs. constant_at cs id) constants_kept ∙ h.constant };
    same = same;
  }

  pub type_here : IsType typed (length a.table.types) made
  type_here =
      let long = length-trees a.table in
      record {
        known = (let e = length_push a.table.types ty in omega (arith, e));
        tree = ap (λ us. type_at us (length a.table.types)) (trees-with a.table ty) ∙ get_or_at (trees a.table) made [] void (length a.table.types) (omega (arith, long));
      }

module _ (a : Lists) (c : Const) (good : IsGood a) where
  pub grows_by_constant : Grows a (with_constant a c)
  grows_by_constant = record {
    structs = refl;
    variables = refl;
    aliases = refl;
    functions = refl;
    types = λ id t h. record { known = h.known; tree = h.tree };
    constants = λ id x h.
        let long = length-constants_of a in
        let lt = h.known in
        record {
          known = (let e = length_push a.constants c in omega (arith, e, lt));
          constant = ap (λ cs. constant_at cs id) (constants_of-push a c) ∙ get_or_append_left (constants_of a) (constant_in a c ∷ []) Constant.Null id (omega (arith, long, lt)) ∙ h.constant;
        };
    same = module_of-constant a c good;
  }

  pub constant_here : IsConstant (with_constant a c) (length a.constants) (constant_in a c)
  constant_here =
      let long = length-constants_of a in
      record {
        known = (let e = length_push a.constants c in omega (arith, e));
        constant = ap (λ cs. constant_at cs (length a.constants)) (constants_of-push a c) ∙ get_or_at (constants_of a) (constant_in a c) [] Constant.Null (length a.constants) (omega (arith, long));
      }

-- ---- what is there

pub type_found : (a : Lists) → types.IsGood a.table → (id : ℕ) (ty : IrType) → slice_get a.table.types id ≡ Some ty → IsType a id (tree_of (names a.table) (trees a.table) ty)
type_found a good id ty e =
    let lt = slice_get_within a.table.types id ty e in
    record {
      known = lt;
      tree = tree-is a.table good id lt ∙ ap (tree_of (names a.table) (trees a.table)) (get_or_from_slice_get a.table.types id ty Void e);
    }

pub type_found_if : (a : Lists) → types.IsGood a.table → (found : Option ℕ) (ty : IrType) → IfSome found (λ id. slice_get a.table.types id ≡ Some ty) → IfSome found (λ id. IsType a id (tree_of (names a.table) (trees a.table) ty))
type_found_if a good (Some id) ty e = type_found a good id ty e
type_found_if a good None ty e = tt

module _ (ts : List Tree) (count : ℕ) (ns : GlobalId → Bytes) (n : Counts) where
  more : (done : List Constant) (cs : List Const) → (rest : List Constant) × (fold (grow ts ns) done cs ≡ done ++ rest)
  more done [] = ([], sym (append-nil done))
  more done (c ∷ cs) =
      let rest = more (grow ts ns done c) cs in
      (constant_view ts ns done c ∷ rest.0, rest.1 ∙ append_assoc done (constant_view ts ns done c ∷ []) rest.0)

  constant_is : (done : List Constant) (cs : List Const) (k : ℕ) (c : Const) → slice_get cs k ≡ Some c → AllKnownConsts count n (length done) cs
      → constant_at (fold (grow ts ns) done cs) (length done + k) ≡ constant_view ts ns (fold (grow ts ns) done cs) c
  constant_is done [] k c e all = absurd cc
  constant_is done (d ∷ cs) zero c e all =
      let x = constant_view ts ns done d in
      let rest = more (grow ts ns done d) cs in
      let whole : fold (grow ts ns) done (d ∷ cs) ≡ done ++ x ∷ rest.0 = rest.1 ∙ append_assoc done (x ∷ []) rest.0 in
      ap (λ xs. constant_at xs (length done + 0)) whole
      ∙ get_or_at done x rest.0 Constant.Null (length done + 0) (omega arith)
      ∙ sym (constant_view-same ts ts count (λ id lt. refl) done (done ++ x ∷ rest.0) (length done) (λ id lt. get_or_append_left done (x ∷ rest.0) Constant.Null id lt) ns ns n (λ g h. refl) d all.0)
      ∙ ap (λ xs. constant_view ts ns xs d) (sym whole)
      ∙ ap (constant_view ts ns (fold (grow ts ns) done (d ∷ cs))) (some-equal e)
  constant_is done (d ∷ cs) (suc k) c e all =
      let one = length_push done (constant_view ts ns done d) in
      let place : length done + suc k ≡ length (grow ts ns done d) + k = omega (arith, one) in
      ap (λ i. constant_at (fold (grow ts ns) (grow ts ns done d) cs) i) place
      ∙ constant_is (grow ts ns done d) cs k c e (subst (λ m. AllKnownConsts count n m cs) (omega (arith, one)) all.1)

pub constant_found : (a : Lists) → IsGood a → (id : ℕ) (c : Const) → slice_get a.constants id ≡ Some c → IsConstant a id (constant_in a c)
constant_found a good id c e = record {
  known = slice_get_within a.constants id c e;
  constant = (let same : id ≡ 0 + id = omega arith in ap (constant_at (constants_of a)) same ∙ constant_is (trees a.table) (length a.table.types) (name_at a) (counts a) [] a.constants id c e good.constants);
}

-- ---- lists of ids

module _ (a b : Lists) (grows : Grows a b) where
  type_stays : (id : ℕ) → id < length a.table.types → IsType b id (type_at (trees a.table) id)
  type_stays id lt = grows.types id (type_at (trees a.table) id) (record { known = lt; tree = refl })

  constant_stays : (id : ℕ) → id < length a.constants → IsConstant b id (constant_at (constants_of a) id)
  constant_stays id lt = grows.constants id (constant_at (constants_of a) id) (record { known = lt; constant = refl })

  pub types_stay : (ids : List ℕ) (ts : List Tree) → AreTypes a ids ts → AreTypes b ids ts
  types_stay ids ts h = record {
    known = All-weaker (λ id. id < length a.table.types) (λ id. id < length b.table.types) (λ id lt. (type_stays id lt).known) ids h.known;
    trees = same-map (type_at (trees b.table)) (type_at (trees a.table)) (λ id. id < length a.table.types) (λ id lt. (type_stays id lt).tree) ids h.known ∙ h.trees;
  }

  pub typed_stay : (ids : List TypedConst) (cs : List (Tree × Constant)) → AreTyped a ids cs → AreTyped b ids cs
  typed_stay ids cs h = record {
    known = All-weaker (IsKnownTyped a) (IsKnownTyped b) (λ c lt. ((type_stays c.ty lt.0).known, (constant_stays c.value lt.1).known)) ids h.known;
    constants = same-map (typed_at b) (typed_at a) (IsKnownTyped a) (λ c lt. λ j. ((type_stays c.ty lt.0).tree j, (constant_stays c.value lt.1).constant j)) ids h.known ∙ h.constants;
  }

  pub typed_one_stays : (id : TypedConst) (c : Tree × Constant) → IsTyped a id c → IsTyped b id c
  typed_one_stays id c h = record { ty = grows.types id.ty c.0 h.ty; value = grows.constants id.value c.1 h.value }

-- ---- one call after another

pub then_grows : {A E : Type 0} (r : Result A E) (a b c : Lists) → Grows a b → OnOk r (Grows b c) → OnOk r (Grows a c)
then_grows (Ok x) a b c g h = grows_on a b c g h
then_grows (Err y) a b c g h = tt
