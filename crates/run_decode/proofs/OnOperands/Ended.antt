-- What the ends of blocks come to, by what their operands, edges and cases have come to.
use Rattle.std.proofs.Common.{◌≡◌, ℕ, List, [], ◌∷◌, map, refl, ap, ◌∙◌}
use Rattle.module_arena.specs.declared.instruction.Case as the_case
use Rattle.module_arena.specs.declared.instruction.Ending.TheVariants as ending
use Rattle.module_arena.specs.declared.instruction.Operand.{Operand}
use Rattle.run_rules.specs.Action as actions
use Rattle.run_rules.specs.Resolve.{case_in, edge_in}
use Rattle.run_rules.specs.Scope.{operand_in, scalar_in}
use Rattle.run_decode.specs.declared.flat.action.Action.TheVariants.{Branch, Jump, Return, Switch}
use Rattle.run_decode.specs.declared.flat.leaf.LeafAt.{LeafAt}
use Rattle.run_decode.specs.declared.flat.leaf.Span.{Span}
use Rattle.run_decode.specs.declared.flat.pools.Pools.{Pools}
use Rattle.run_decode.specs.Flat.Grown.{Adds, AreCases, AreLeaves, IsEdge, IsLeaf}
use Rattle.run_decode.proofs.OnFlat.Growth.{edge_stays, leaf_stays}
use Rattle.run_decode.specs.Scopes.Scopes.{Framed, label_of, operand_of, scope_in}
use Rattle.run_decode.specs.Operands.Endings.{EndMeant, case_from, case_of}

-- what is mapped twice
pub mapped_twice : {A B C : Type 0} (f : B → C) (g : A → B) (xs : List A) → map (λ (x : A). f (g x)) xs ≡ map f (map g xs)
mapped_twice f g [] = refl
mapped_twice f g (x ∷ xs) = λ i. f (g x) ∷ mapped_twice f g xs i

module _ (s : Framed) (from : ℕ) where
  abbrev edge_to : ℕ → actions.Edge
  edge_to to = edge_in (scope_in s.lists s.function) (label_of s.lists s.function from) (label_of s.lists s.function to)

  abbrev one : Operand → actions.Origin
  one o = scalar_in (scope_in s.lists s.function) (operand_of s.lists s.function o)

  pub return_meant : (p : Pools) (o : Operand) (span : Span) → AreLeaves p span (operand_in (scope_in s.lists s.function) (operand_of s.lists s.function o)) → EndMeant s p from (ending.Return o) (Return span)
  return_meant p o span leaves = record { within = leaves.within; means = ap actions.Return leaves.means }

  pub jump_meant : (p : Pools) (to edge : ℕ) → IsEdge p edge (edge_to to) → EndMeant s p from (ending.Jump to) (Jump edge)
  jump_meant p to edge way = record { within = way.within; means = ap actions.Jump way.means }

  module _ (p q r : Pools) (g : Adds p q) (h : Adds q r) where
    pub branch_meant : (o : Operand) (then_to else_to then_edge else_edge : ℕ) (at : LeafAt) → IsLeaf p at (one o) → IsEdge q then_edge (edge_to then_to) → IsEdge r else_edge (edge_to else_to)
        → EndMeant s r from (ending.Branch o then_to else_to) (Branch at then_edge else_edge)
    branch_meant o then_to else_to then_edge else_edge at leaf first second =
        let kept = leaf_stays q r h.grows at (one o) (leaf_stays p q g.grows at (one o) leaf) in
        let way = edge_stays q r h.grows then_edge (edge_to then_to) first in
        record { within = (kept.within, way.within, second.within); means = λ i. actions.Branch (kept.means i) (way.means i) (second.means i) }

    pub switch_meant : (o : Operand) (otherwise edge : ℕ) (at : LeafAt) (cs : List the_case.Case) (span : Span) → IsLeaf p at (one o) → IsEdge q edge (edge_to otherwise) → AreCases r span (map (case_from s from) cs)
        → EndMeant s r from (ending.Switch o otherwise cs) (Switch at edge span)
    switch_meant o otherwise edge at cs span leaf way cases =
        let kept = leaf_stays q r h.grows at (one o) (leaf_stays p q g.grows at (one o) leaf) in
        let still = edge_stays q r h.grows edge (edge_to otherwise) way in
        let twice = mapped_twice (case_in (scope_in s.lists s.function) (label_of s.lists s.function from)) (case_of s.lists s.function) cs in
        record { within = (kept.within, still.within, cases.within); means = λ i. actions.Switch (kept.means i) (still.means i) ((cases.means ∙ twice) i) }
