-- A constant of an arena, by what stands at its number.
use Rattle.std.proofs.Common.{◌≡◌, ℕ, zero, suc, ◌+◌, List, [], ◌∷◌, ◌++◌, length, slice_get, Some, refl, sym, ap, ◌∙◌, subst, arith}
use Rattle.std.specs.List.{fold}
use Rattle.std.proofs.lemmas.List.{length_push, get_or_append_left, get_or_at, append_assoc, append-nil}
use Rattle.std.proofs.lemmas.Option.{slice_get_within}
use Rattle.type_table.specs.Tree.{Tree}
use Rattle.type_table.specs.Types.{trees}
use Rattle.module_arena.specs.declared.constant.Const.{Const}
use Rattle.module_arena.specs.declared.entry.GlobalId.{GlobalId}
use Rattle.module_arena.specs.Lists.{Lists, name_at}
use Rattle.module_arena.specs.Module.{Bytes, Constant}
use Rattle.module_arena.specs.Known.{Counts, counts, AllKnownConsts, IsGood}
use Rattle.module_arena.specs.View.{constant_at, constant_view, grow, constants_of}
use Rattle.module_arena.specs.Changes.{constant_in}
use Rattle.module_arena.proofs.Found.{some-equal}
use Rattle.module_arena.proofs.SameView.{constant_view-same}
use Rattle.type_read.specs.Arena.Growing.{IsConstant}

module _ (ts : List Tree) (count : ℕ) (ns : GlobalId → Bytes) (n : Counts) where
  more : (done : List Constant) (cs : List Const) → (rest : List Constant) × (fold (grow ts ns) done cs ≡ done ++ rest)
  more done [] = ([], sym (append-nil done))
  more done (c ∷ cs) =
      let rest = more (grow ts ns done c) cs in
      (constant_view ts ns done c ∷ rest.0, rest.1 ∙ append_assoc done (constant_view ts ns done c ∷ []) rest.0)

  constant_is : (done : List Constant) (cs : List Const) (k : ℕ) (c : Const) → slice_get cs k ≡ Some c → AllKnownConsts count n (length done) cs
      → constant_at (fold (grow ts ns) done cs) (length done + k) ≡ constant_view ts ns (fold (grow ts ns) done cs) c
  constant_is done [] k c e all = absurd cc
  constant_is done (d ∷ cs) zero c e all =
      let x = constant_view ts ns done d in
      let rest = more (grow ts ns done d) cs in
      let whole : fold (grow ts ns) done (d ∷ cs) ≡ done ++ x ∷ rest.0 = rest.1 ∙ append_assoc done (x ∷ []) rest.0 in
      ap (λ xs. constant_at xs (length done + 0)) whole
      ∙ get_or_at done x rest.0 Constant.Null (length done + 0) (omega arith)
      ∙ sym (constant_view-same ts ts count (λ id lt. refl) done (done ++ x ∷ rest.0) (length done) (λ id lt. get_or_append_left done (x ∷ rest.0) Constant.Null id lt) ns ns n (λ g h. refl) d all.0)
      ∙ ap (λ xs. constant_view ts ns xs d) (sym whole)
      ∙ ap (constant_view ts ns (fold (grow ts ns) done (d ∷ cs))) (some-equal e)
  constant_is done (d ∷ cs) (suc k) c e all =
      let one = length_push done (constant_view ts ns done d) in
      let place : length done + suc k ≡ length (grow ts ns done d) + k = omega (arith, one) in
      ap (λ i. constant_at (fold (grow ts ns) (grow ts ns done d) cs) i) place
      ∙ constant_is (grow ts ns done d) cs k c e (subst (λ m. AllKnownConsts count n m cs) (omega (arith, one)) all.1)

pub constant_found : (a : Lists) → IsGood a → (id : ℕ) (c : Const) → slice_get a.constants id ≡ Some c → IsConstant a id (constant_in a c)
constant_found a good id c e = record {
  known = slice_get_within a.constants id c e;
  constant = (let same : id ≡ 0 + id = omega arith in ap (constant_at (constants_of a)) same ∙ constant_is (trees a.table) (length a.table.types) (name_at a) (counts a) [] a.constants id c e good.constants);
}
