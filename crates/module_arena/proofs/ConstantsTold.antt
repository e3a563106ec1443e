-- The constant with an id, by what stands in the arena.
use Rattle.std.proofs.Common.{◌≡◌, ℕ, zero, suc, ◌+◌, ◌<◌, ◌≤◌, List, [], ◌∷◌, ◌++◌, length, get_or, slice_get, Some, refl, sym, ap, ◌∙◌, subst, arith, append_assoc}
use Rattle.std.specs.List.{fold}
use Rattle.std.proofs.lemmas.Option.{get_or_from_slice_get, slice_get_within, slice_get-get_or}
use Rattle.std.proofs.lemmas.List.{get_or_append_left, length_push, append-nil}
use Rattle.std.proofs.Math.Seq.{get_or-append_seam}
use Rattle.type_table.specs.Tree.{Tree}
use Rattle.type_table.specs.Types.{trees}
use Rattle.module_arena.specs.declared.constant.Const as the_const
use Rattle.module_arena.specs.declared.constant.Const.TheVariants as const
use Rattle.module_arena.specs.declared.entry.GlobalId.{GlobalId}
use Rattle.module_arena.specs.declared.constant.TypedConst.{TypedConst}
use Rattle.module_arena.specs.Mentions.{typed_in}
use Rattle.std.proofs.lemmas.List.Elements.{All-weaker}
use Rattle.module_arena.specs.Module.{Bytes, Constant}
use Rattle.module_arena.specs.Lists.{Lists, name_at}
use Rattle.module_arena.specs.Known.{Counts, counts, KnowsConst, AllKnownConsts, IsGood}
use Rattle.module_arena.specs.View.{constant_at, constant_view, grow, constants_of}
use Rattle.module_arena.specs.Changes.{constant_in}
use Rattle.module_arena.proofs.SameView.{constant_view-same}
use Rattle.module_arena.proofs.ModuleOf.{length-constants_of}

module _ (ts : List Tree) (ns : GlobalId → Bytes) where
  -- what is there stays there
  grown : (done : List Constant) (cs : List the_const.Const) → (rest : List Constant) × (fold (grow ts ns) done cs ≡ done ++ rest)
  grown done [] = ([], sym (append-nil done))
  grown done (c ∷ cs) =
      let x = constant_view ts ns done c in
      let rest = grown (done ++ x ∷ []) cs in
      (x ∷ rest.0, rest.1 ∙ append_assoc done (x ∷ []) rest.0)

  grown_at : (types : ℕ) (n : Counts) (done : List Constant) (cs : List the_const.Const) (k : ℕ) → k < length cs → AllKnownConsts types n (length done) cs
      → get_or (fold (grow ts ns) done cs) (length done + k) Constant.Null ≡ constant_view ts ns (fold (grow ts ns) done cs) (get_or cs k const.Null)
  grown_at types n done [] k lt all = absurd (omega arith)
  grown_at types n done (c ∷ cs) zero lt all =
      let x = constant_view ts ns done c in
      let rest = grown (done ++ x ∷ []) cs in
      let whole : fold (grow ts ns) done (c ∷ cs) ≡ done ++ x ∷ rest.0 = rest.1 ∙ append_assoc done (x ∷ []) rest.0 in
      ap (λ l. get_or l (length done + 0) Constant.Null) whole
      ∙ ap (λ i. get_or (done ++ x ∷ rest.0) i Constant.Null) (omega arith)
      ∙ get_or-append_seam done x rest.0 Constant.Null
      ∙ sym (constant_view-same ts ts types (λ id l. refl) done (fold (grow ts ns) done (c ∷ cs)) (length done)
      (λ id l. ap (λ ys. constant_at ys id) whole ∙ get_or_append_left done (x ∷ rest.0) Constant.Null id l) ns ns n (λ g h. refl) c all.0)
  grown_at types n done (c ∷ cs) (suc k) lt all =
      let x = constant_view ts ns done c in
      let one = length_push done x in
      let place : length done + suc k ≡ length (done ++ x ∷ []) + k = omega (arith, one) in
      ap (λ i. get_or (fold (grow ts ns) (done ++ x ∷ []) cs) i Constant.Null) place
      ∙ grown_at types n (done ++ x ∷ []) cs k (omega arith) (subst (λ m. AllKnownConsts types n m cs) (omega (arith, one)) all.1)

known_at : (types : ℕ) (n : Counts) (count : ℕ) (cs : List the_const.Const) (k : ℕ) (c : the_const.Const) → AllKnownConsts types n count cs → slice_get cs k ≡ Some c → KnowsConst types n (count + k) c
known_at types n count [] k c all at = absurd (omega (arith, slice_get_within {A = the_const.Const} [] k c at))
known_at types n count (d ∷ cs) zero c all at =
    subst (λ m. KnowsConst types n m c) (omega arith) (subst (λ (x : the_const.Const). KnowsConst types n count x) (get_or_from_slice_get (d ∷ cs) zero c d at) all.0)
known_at types n count (d ∷ cs) (suc k) c all at = subst (λ m. KnowsConst types n m c) (omega arith) (known_at types n (count + 1) cs k c all.1 at)

module _ (a : Lists) (good : IsGood a) where
  -- a constant knows earlier ones
  pub const_known : (id : ℕ) (c : the_const.Const) → slice_get a.constants id ≡ Some c → KnowsConst (length a.table.types) (counts a) id c
  const_known id c at = subst (λ m. KnowsConst (length a.table.types) (counts a) m c) (omega arith) (known_at (length a.table.types) (counts a) 0 a.constants id c good.constants at)

  pub constant_here : (id : ℕ) (c : the_const.Const) → slice_get a.constants id ≡ Some c → constant_at (constants_of a) id ≡ constant_in a c
  constant_here id c at =
      let lt = slice_get_within a.constants id c at in
      ap (λ i. get_or (constants_of a) i Constant.Null) (omega arith)
      ∙ grown_at (trees a.table) (name_at a) (length a.table.types) (counts a) [] a.constants id lt good.constants
      ∙ ap (constant_in a) (get_or_from_slice_get a.constants id c const.Null at)

  pub constant_got : (id : ℕ) (c : the_const.Const) → slice_get a.constants id ≡ Some c → slice_get (constants_of a) id ≡ Some (constant_in a c)
  constant_got id c at =
      let lt = slice_get_within a.constants id c at in
      slice_get-get_or (constants_of a) id Constant.Null (omega (arith, length-constants_of a, lt)) ∙ ap Some (constant_here id c at)

-- what is known of a constant is known of it among more
pub const_weaker : (types : ℕ) (n : Counts) (count more : ℕ) (c : the_const.Const) → count ≤ more → KnowsConst types n count c → KnowsConst types n more c
const_weaker types n count more c le k = record {
  types_known = k.types_known;
  typed_known = All-weaker (λ (t : TypedConst). (t.ty < types) × (t.value < count)) (λ (t : TypedConst). (t.ty < types) × (t.value < more)) (λ t h. (h.0, omega (arith, h.1, le))) (typed_in c) k.typed_known;
  globals_known = k.globals_known;
}
