-- A call in pools: its function type under its number, the types and the leaves of its arguments.
use Rattle.std.proofs.Common.{◌≡◌, ℕ, suc, ◌+◌, ◌<◌, Bool, List, [], ◌∷◌, ◌++◌, All, append_assoc, Result, Ok, Err, IfOk, Some, length, take, get_or, map, flat_map, refl, sym, ap, ◌∙◌, subst, arith}
use Rattle.std.specs.Prelude.{slice_get}
use Rattle.std.proofs.Math.Seq.{take-suc}
use Rattle.std.proofs.lemmas.List.{map-append}
use Rattle.std.proofs.lemmas.List.Elements.{All-append, All-cons, All-map, All-push}
use Rattle.std.proofs.lemmas.Option.{get_or_from_slice_get}
use Rattle.module_arena.specs.declared.instruction.Call.{Call}
use Rattle.module_arena.specs.declared.instruction.Inst.TheVariants as inst
use Rattle.module_arena.specs.declared.instruction.Operand.{Operand}
use Rattle.module_arena.specs.Lists.{Lists}
use Rattle.module_arena.specs.Module as m
use Rattle.module_arena.specs.View.{signature_view, type_at}
use Rattle.type_table.specs.Tree.{ptr}
use Rattle.type_table.specs.Types.{trees}
use Rattle.run_rules.specs.Action as actions
use Rattle.run_rules.specs.Constant.{shape_of}
use Rattle.run_rules.specs.Resolve.{signature_in}
use Rattle.run_rules.specs.Scope.{operand_in, scalar_of}
use Rattle.run_names.specs.Shapes.Shapes.{shape_in}
use Rattle.run_initial.specs.Constants.Sound.{names_of}
use Rattle.run_decode.specs.declared.flat.action.Action.TheVariants as flat
use Rattle.run_decode.specs.declared.flat.action.CallParts.{CallParts}
use Rattle.run_decode.specs.declared.flat.leaf.LeafAt.{LeafAt}
use Rattle.run_decode.specs.declared.flat.leaf.Span.{Span}
use Rattle.run_decode.specs.declared.flat.pools.Pools.{Pools}
use Rattle.run_decode.specs.Flat.Flat.{call_of, no_call, signature_of}
use Rattle.run_decode.specs.Flat.Grown.{Adds, AreLeaves, Grows, IsLeaf}
use Rattle.run_decode.specs.Flat.Spans.{IsBetween, IsSpanIn, spanned}
use Rattle.run_decode.proofs.OnFlat.Growth.{adds_then, calls_grow, grows_then, leaf_stays, span_stays, spanned_same, types_add}
use Rattle.run_decode.proofs.OnFlat.Spanned.{between_in, spanned_more}
use Rattle.run_decode.specs.Scopes.Scopes.{Framed, operand_of, scope_in, to_of, value_of}
use Rattle.run_decode.proofs.OnScopes.Shaped.{shapes_same}
use Rattle.run_decode.specs.Signatures.Met.{Met, known, written_as}
use Rattle.run_decode.specs.Signatures.Numbers.{AreNumbered, IsNumbered, Numbers}
use Rattle.run_decode.proofs.OnSignatures.Numbered.{call_numbered, calls_numbered, numbers_none}
use Rattle.run_decode.specs.Operands.Suits.{HasCall}
use Rattle.run_decode.proofs.OnOperands.Stands.{pushed_at}
use Rattle.run_decode.proofs.OnOperands.Ended.{mapped_twice}
use Rattle.run_decode.specs.Calls.{IsCallOf}
use Rattle.run_decode.specs.Operations.{Meant}

-- ---- types of operands

-- one more
pub types_more : (os : List Operand) (k : ℕ) (x d : Operand) (old now new : List ℕ) → k < length os → x ≡ get_or os k d → new ≡ now ++ x.ty ∷ [] → now ≡ old ++ map (λ (o : Operand). o.ty) (take k os)
    → new ≡ old ++ map (λ (o : Operand). o.ty) (take (k + 1) os)
types_more os k x d old now new lt is e h =
    let count : k + 1 ≡ suc k = omega arith in
    let front : take (k + 1) os ≡ take k os ++ x ∷ [] = ap (λ (n : ℕ). take n os) count ∙ take-suc os k d lt ∙ ap (λ (y : Operand). take k os ++ y ∷ []) (sym is) in
    let types = map (λ (o : Operand). o.ty) (take k os) in
    e
    ∙ ap (λ (l : List ℕ). l ++ x.ty ∷ []) h
    ∙ append_assoc old types (x.ty ∷ [])
    ∙ ap (λ (l : List ℕ). old ++ l) (sym (ap (map (λ (o : Operand). o.ty)) front ∙ map-append (λ (o : Operand). o.ty) (take k os) (x ∷ [])))

-- all of them
pub types_in : {E : Type 0} (r : Result Span E) (old new : List ℕ) (first : ℕ) → first ≡ length old → IfOk r (IsBetween first (length new)) → IfOk r (IsSpanIn new)
types_in (Ok s) old new first here h = between_in new first s h
types_in (Err x) old new first here h = tt

pub types_put : {E : Type 0} (r : Result Span E) (old new gained : List ℕ) (first : ℕ) → first ≡ length old → new ≡ old ++ gained → IfOk r (IsBetween first (length new)) → IfOk r (λ span. spanned new span ≡ gained)
types_put (Ok s) old new gained first here e h = spanned_more old gained new s e (subst (λ (n : ℕ). IsBetween n (length new) s) here h)
types_put (Err x) old new gained first here e h = tt

-- ---- the parts of a call

-- types, then the types of arguments, then their leaves, and then the call
module _ (s : Framed) (c : Call) (has : HasCall s c) (p : Pools) (types : List ℕ) (q r : Pools) (calls : List CallParts) (one : CallParts)
    (appended : types ≡ p.types ++ c.signature.parameters) (between : IsBetween (length p.types) (length types) one.parameters)
    (first : Adds (record p { types = types }) q) (shapes_in : IsSpanIn q.types one.shapes) (shapes : spanned q.types one.shapes ≡ map (λ (o : Operand). o.ty) c.arguments)
    (second : Adds q r) (arguments : AreLeaves r one.arguments (flat_map (operand_in (scope_in s.lists s.function)) (map (operand_of s.lists s.function) c.arguments)))
    (pushed : calls ≡ r.calls ++ one ∷ [])
    (returned : one.returns ≡ c.signature.returns) (open_ended : one.variadic ≡ c.signature.variadic) where
  abbrev p' : Pools
  p' = record p { types = types }

  abbrev last : Pools
  last = record r { calls = calls }

  so_far : Adds p r
  so_far = adds_then p p' r (types_add p types (c.signature.parameters, appended)) (adds_then p' q r first second)

  last_grows : Grows r last
  last_grows = calls_grow r calls (one ∷ [], pushed)

  pub parts_grow : Grows p last
  parts_grow = grows_then p r last so_far.grows last_grows

  types_there : IsSpanIn types one.parameters
  types_there = between_in types (length p.types) one.parameters between

  parameters_in : IsSpanIn r.types one.parameters
  parameters_in = span_stays types r.types one.parameters (adds_then p' q r first second).grows.types types_there

  parameters_are : spanned r.types one.parameters ≡ c.signature.parameters
  parameters_are = spanned_same types r.types one.parameters (adds_then p' q r first second).grows.types types_there ∙ spanned_more p.types c.signature.parameters types one.parameters appended between

  arguments_in : IsSpanIn r.types one.shapes
  arguments_in = span_stays q.types r.types one.shapes second.grows.types shapes_in

  arguments_are : spanned r.types one.shapes ≡ map (λ (o : Operand). o.ty) c.arguments
  arguments_are = spanned_same q.types r.types one.shapes second.grows.types shapes_in ∙ shapes

  written : signature_of last s.lists one ≡ written_as s.lists c.signature.returns c.signature.parameters c.signature.variadic
  written = λ i. written_as s.lists (returned i) (parameters_are i) (open_ended i)

  pub parts_called : (place : ℕ) → place ≡ length r.calls → IsCallOf s last place c
  parts_called place here = record {
    within = record { call = one; there = ap (λ (l : List CallParts). slice_get l place) pushed ∙ pushed_at r.calls one place here; parameters = parameters_in; shapes = arguments_in; arguments = arguments.within };
    signature = written;
    shapes = ap (map (shape_in s.lists.table)) arguments_are ∙ sym (mapped_twice (shape_in s.lists.table) (λ (o : Operand). o.ty) c.arguments);
    arguments = arguments.means;
  }

  module _ (met now : Met) (numbers : Numbers met now) (lists : met.lists ≡ s.lists) (number : slice_get (known now) one.signature ≡ Some (written_as met.lists c.signature.returns c.signature.parameters c.signature.variadic)) where
    abbrev is_known : ℕ → Type 0
    is_known ty = ty < length s.lists.table.types

    known_all : All is_known (one.returns ∷ spanned r.types one.parameters ++ spanned r.types one.shapes)
    known_all =
        All-cons is_known one.returns (spanned r.types one.parameters ++ spanned r.types one.shapes) (subst is_known (sym returned) has.returns)
        (All-append is_known (spanned r.types one.parameters) (spanned r.types one.shapes)
        (subst (All is_known) (sym parameters_are) has.parameters)
        (subst (All is_known) (sym arguments_are) (All-map is_known (λ (o : Operand). o.ty) c.arguments (λ k d lt. (has.arguments k d lt).known))))

    one_numbered : IsNumbered now s.lists last one
    one_numbered = record {
      parameters = parameters_in;
      shapes = arguments_in;
      known_types = known_all;
      number = number ∙ ap (λ (a : Lists). Some (written_as a c.signature.returns c.signature.parameters c.signature.variadic)) lists ∙ ap Some (sym written);
    }

    pub parts_numbered : AreNumbered met s.lists p → AreNumbered now s.lists last
    parts_numbered h =
        let before = calls_numbered met now s.lists p r numbers so_far h in
        subst (All (IsNumbered now s.lists last)) (sym pushed)
        (All-push (IsNumbered now s.lists last) r.calls one (λ k d lt. call_numbered now now s.lists r last (get_or r.calls k d) (numbers_none now) last_grows (before k d lt)) one_numbered)

-- ---- the call

module _ (s : Framed) where
  parameters_same : (ids : List ℕ) → map (shape_in s.lists.table) ids ≡ map (shape_of (names_of s.lists)) (map (type_at (trees s.lists.table)) ids)
  parameters_same [] = refl
  parameters_same (id ∷ ids) = λ i. shapes_same s.lists id i ∷ parameters_same ids i

  arguments_same : (os : List Operand) → map (λ (o : Operand). shape_in s.lists.table o.ty) os ≡ map (λ (o : m.Operand). shape_of (names_of s.lists) o.ty) (map (operand_of s.lists s.function) os)
  arguments_same [] = refl
  arguments_same (o ∷ os) = λ i. shapes_same s.lists o.ty i ∷ arguments_same os i

  signature_same : (returns : ℕ) (parameters : List ℕ) (variadic : Bool)
      → written_as s.lists returns parameters variadic ≡ signature_in (names_of s.lists) (signature_view (trees s.lists.table) (record { returns = returns; parameters = parameters; variadic = variadic }))
  signature_same returns parameters variadic = λ i. record { returns = shapes_same s.lists returns i; parameters = parameters_same parameters i; variadic = variadic }

  pub call_meant : (p q : Pools) (c : Call) (to place : ℕ) (callee : LeafAt) → Grows p q → to ≡ to_of s c.result → IsLeaf p callee (scalar_of (scope_in s.lists s.function) ptr (value_of s.lists s.function c.callee)) → IsCallOf s q place c
      → Meant s q (inst.Call c) (flat.Call to callee place)
  call_meant p q c to place callee g there leaf call =
      let origin = scalar_of (scope_in s.lists s.function) ptr (value_of s.lists s.function c.callee) in
      let kept = leaf_stays p q g callee origin leaf in
      let parts = get_or_from_slice_get q.calls place call.within.call no_call call.within.there in
      record {
        within = (kept.within, call.within);
        means =
            (λ i. call_of q s.lists (there i) (kept.means i) (parts i))
            ∙ (λ i. actions.Call (to_of s c.result) ((call.signature ∙ signature_same c.signature.returns c.signature.parameters c.signature.variadic) i) origin ((call.shapes ∙ arguments_same c.arguments) i) (call.arguments i));
      }
