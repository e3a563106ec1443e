-- An arena in the making that gets constants: what was in it stays what it is.
use Rattle.std.proofs.Common.{◌≡◌, ◌<◌, inl, inr, ℕ, List, [], ◌∷◌, length, get_or, Result, Ok, Err, IfOk, OnOk, OnErr, refl, sym, ap, subst, ◌∙◌, arith}
use Rattle.std.proofs.lemmas.List.{get_or_append_left, get_or_at, length_push}
use Rattle.type_table.specs.declared.ir_type.IrType.{IrType}
use Rattle.type_table.specs.declared.ir_type.IrType.TheVariants as type
use Rattle.type_table.specs.Tree.{Tree, ptr, int, void}
use Rattle.type_table.specs.Types.{Types, names, tree, trees, tree_of, with_type}
use Rattle.type_table.proofs.Added.{length-trees, trees-with}
use Rattle.module_arena.specs.declared.constant.Const.{Const}
use Rattle.module_arena.specs.Changes.{constant_in, with_constant, with_table}
use Rattle.module_arena.specs.Lists.{Lists}
use Rattle.module_arena.specs.Module.{Constant}
use Rattle.module_arena.specs.View.{constants_of, constant_at}
use Rattle.module_arena.proofs.ModuleOf.{constants_of-push, length-constants_of}
use Rattle.type_read.specs.Arena.Growing.{Growing, IsGrowing, IsType, IsConstant, Grows, AddsConstant}

pub grows_self : (g : Growing) → Grows g g
grows_self g = record { rest = refl; constants = λ id lt. record { known = lt; constant = refl } }

pub grows_two : (a b c : Growing) → Grows a b → Grows b c → Grows a c
grows_two a b c g h = record {
  rest = h.rest ∙ ap (λ (x : Growing). record x { arena = record x.arena { constants = c.arena.constants } }) g.rest;
  constants = λ id lt.
      let first = g.constants id lt in
      let second = h.constants id first.known in
      record { known = second.known; constant = second.constant ∙ first.constant };
}

pub same_table : (a b : Growing) → Grows a b → b.arena.table ≡ a.arena.table
same_table a b g = ap (λ (x : Growing). x.arena.table) g.rest

pub still_constant : (a b : Growing) (id : ℕ) (c : Constant) → Grows a b → IsConstant a.arena id c → IsConstant b.arena id c
still_constant a b id c g h = let there = g.constants id h.known in record { known = there.known; constant = there.constant ∙ h.constant }

-- one more constant
grows_added : (g : Growing) (c : Const) → Grows g (record g { arena = with_constant g.arena c })
grows_added g c = record {
  rest = refl;
  constants = λ id lt.
      let many = length-constants_of g.arena in
      let long = length_push g.arena.constants c in
      record {
        known = omega (arith, lt, long);
        constant = ap (λ (l : List Constant). constant_at l id) (constants_of-push g.arena c) ∙ get_or_append_left (constants_of g.arena) (constant_in g.arena c ∷ []) Constant.Null id (omega (arith, lt, many));
      };
}

added_is : (a : Lists) (c : Const) → IsConstant (with_constant a c) (length a.constants) (constant_in a c)
added_is a c =
    let many = length-constants_of a in
    let long = length_push a.constants c in
    record {
      known = omega (arith, long);
      constant = ap (λ (l : List Constant). constant_at l (length a.constants)) (constants_of-push a c) ∙ get_or_at (constants_of a) (constant_in a c) [] Constant.Null (length a.constants) (omega (arith, many));
    }

pub keep_added : (g h : Growing) (b : Lists) (c : Const) (id : ℕ) → h ≡ g → b ≡ with_constant h.arena c → id ≡ length h.arena.constants → AddsConstant g c (record h { arena = b }) id
keep_added g h b c id same is place =
    subst (λ (x : Growing). AddsConstant x c (record h { arena = b }) id) same
    (subst (λ (a : Lists). AddsConstant h c (record h { arena = a }) id) (sym is)
    (subst (λ n. AddsConstant h c (record h { arena = with_constant h.arena c }) n) (sym place) (record { grows = grows_added h c; is = added_is h.arena c; added = inr refl })))

-- the same, unless memory ran out
pub keep_or : {E : Type 0} (r : Result ℕ E) (g h : Growing) (b : Lists) (c : Const) → h ≡ g → OnOk r (b ≡ with_constant h.arena c) → IfOk r (λ id. id ≡ length h.arena.constants) → IfOk r (λ id. AddsConstant g c (record h { arena = b }) id)
keep_or (Ok id) g h b c same is place = keep_added g h b c id same is place
keep_or (Err e) g h b c same is place = tt

pub keep_found : (g h : Growing) (c : Const) (id : ℕ) → h ≡ g → IsConstant h.arena id (constant_in h.arena c) → AddsConstant g c g id
keep_found g h c id same is = subst (λ (x : Growing). AddsConstant x c x id) same (record { grows = grows_self h; is = is; added = inl refl })

-- what holds of each arena in the making does not depend on its constants
pub still_growing : (g : Growing) (b : Lists) → IsGrowing g → b.table ≡ g.arena.table → IsGrowing (record g { arena = b })
still_growing g b h is = record {
  listed = subst (λ (t : Types). g.types < length t.types) (sym is) h.listed;
  pointer = typed g.pointer ptr h.pointer;
  bit = typed g.bit (int 1) h.bit;
}
  where
    typed : (id : ℕ) (t : Tree) → IsType g.arena id t → IsType b id t
    typed id t k = record {
      known = subst (λ (x : Types). id < length x.types) (sym is) k.known;
      tree_is = ap (λ (x : Types). tree x id) is ∙ k.tree_is;
    }

-- the table of what a call leaves, whether it was refused or not
pub table_of_either : {A E : Type 0} (r : Result A E) (old new other : Lists) → other.table ≡ old.table → OnOk r (new ≡ other) → OnErr r (new ≡ old) → new.table ≡ old.table
table_of_either (Ok x) old new other same ok err = ap (λ (a : Lists). a.table) ok ∙ same
table_of_either (Err e) old new other same ok err = ap (λ (a : Lists). a.table) err

-- ---- types that are added

type_added : (t : Types) (ty : IrType) → tree (with_type t ty) (length t.types) ≡ tree_of (names t) (trees t) ty
type_added t ty =
    let long = length-trees t in
    ap (λ (us : List Tree). get_or us (length t.types) void) (trees-with t ty) ∙ get_or_at (trees t) (tree_of (names t) (trees t) ty) [] void (length t.types) (omega (arith, long))

type_kept : (t : Types) (ty : IrType) (id : ℕ) → id < length t.types → tree (with_type t ty) id ≡ tree t id
type_kept t ty id lt =
    let long = length-trees t in
    ap (λ (us : List Tree). get_or us id void) (trees-with t ty) ∙ get_or_append_left (trees t) (tree_of (names t) (trees t) ty ∷ []) void id (omega (arith, long, lt))

-- behind the types that are listed stand those of addresses and of conditions
both_added : (listed : Lists) (types : ℕ) → types ≡ length listed.table.types
    → IsGrowing (record { arena = with_table listed (with_type (with_type listed.table type.Ptr) (type.Int 1)); types = types; pointer = length listed.table.types; bit = length (with_type listed.table type.Ptr).types })
both_added listed types is =
    let t = with_type listed.table type.Ptr in
    let one = length_push listed.table.types type.Ptr in
    let two = length_push t.types (type.Int 1) in
    record {
      listed = omega (arith, one, two, is);
      pointer = record { known = omega (arith, one, two); tree_is = type_kept t (type.Int 1) (length listed.table.types) (omega (arith, one)) ∙ type_added listed.table type.Ptr };
      bit = record { known = omega (arith, two); tree_is = type_added t (type.Int 1) };
    }

pub over_growing : (listed a b : Lists) (types pointer bit : ℕ) → types ≡ length listed.table.types → a ≡ with_table listed (with_type listed.table type.Ptr) → pointer ≡ length listed.table.types → b ≡ with_table a (with_type a.table (type.Int 1))
    → bit ≡ length a.table.types → IsGrowing (record { arena = b; types = types; pointer = pointer; bit = bit })
over_growing listed a b types pointer bit is first place second last =
    let whole : b ≡ with_table listed (with_type (with_type listed.table type.Ptr) (type.Int 1)) = second ∙ ap (λ (x : Lists). with_table x (with_type x.table (type.Int 1))) first in
    let behind : bit ≡ length (with_type listed.table type.Ptr).types = last ∙ ap (λ (x : Lists). length x.table.types) first in
    subst (λ (x : Lists). IsGrowing (record { arena = x; types = types; pointer = pointer; bit = bit })) (sym whole)
    (subst (λ n. IsGrowing (record { arena = with_table listed (with_type (with_type listed.table type.Ptr) (type.Int 1)); types = types; pointer = n; bit = bit })) (sym place)
    (subst (λ n. IsGrowing (record { arena = with_table listed (with_type (with_type listed.table type.Ptr) (type.Int 1)); types = types; pointer = length listed.table.types; bit = n })) (sym behind) (both_added listed types is)))
