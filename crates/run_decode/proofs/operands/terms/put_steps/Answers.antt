use Rattle.std.proofs.Common.{◌≡◌, ◌*◌, ◌≤◌, ◌++◌, [], ◌∷◌, All, List, length, map, pos, sym, ap, ◌∙◌, subst, arith}
use Rattle.std.specs.Int.{w128}
use Rattle.std.specs.Prelude.{FitsSigned}
use Rattle.std.proofs.lemmas.Int.{to_z-of_z}
use Rattle.std.proofs.lemmas.List.{length-map}
use Rattle.std.proofs.lemmas.List.Elements.{All-nil}
use Rattle.type_table.specs.declared.measure.TheConstants.{SIZE_LIMIT}
use Rattle.module_arena.specs.declared.instruction.Operand.{Operand}
use Rattle.run_rules.specs.Displace.{terms_of}
use Rattle.run_rules.specs.Resolve.{index_in}
use Rattle.run_names.specs.Shapes.Shapes.{shape_in}
use Rattle.run_decode.specs.Scopes.Scopes.{operand_of, scope_in}
use Rattle.run_decode.specs.declared.operands.counted.TheConstants.{NO_SIGN_BELOW}
use Rattle.run_decode.specs.declared.operands.steps.Step.{Step}
use Rattle.run_decode.specs.Operands.Open.{led_by}
use Rattle.run_decode.specs.Operands.Steps.{term_of}
use Rattle.run_decode.specs.declared.flat.action.TheConstants.{TERMS}
use Rattle.run_decode.specs.declared.flat.action.Term.{Term}
use Rattle.run_decode.specs.Flat.Flat as flat
use Rattle.run_decode.proofs.OnFlat.Growth.{adds_then, sums_add, terms_add}
use Rattle.run_decode.proofs.OnOperands.Summed.{terms_put}
use Rattle.run_decode.proofs.operands.terms.put_steps.Goals as goal

pub push_steps-requires-clause-small : goal.push_steps-requires-clause-small
push_steps-requires-clause-small c = subst (All (λ (s : Step). s.size ≤ SIZE_LIMIT)) (sym c.new-steps.ensures.items) (All-nil (λ (s : Step). s.size ≤ SIZE_LIMIT))

pub put_terms-requires : goal.put_terms-requires
put_terms-requires c = subst (All (λ (s : Step). s.size ≤ SIZE_LIMIT)) (sym c.deref.ensures.value) c.in_ok-push_steps.ensures.small

pub lead_of_all-total-requires-clause-sizes : goal.lead_of_all-total-requires-clause-sizes
lead_of_all-total-requires-clause-sizes c = subst (All (λ (s : Step). s.size ≤ SIZE_LIMIT)) (sym c.deref-3.ensures.value) c.in_ok-push_steps.ensures.small

pub lead_of_all-total-requires-clause-few : goal.lead_of_all-total-requires-clause-few
lead_of_all-total-requires-clause-few c = let read = ap length c.deref-3.ensures.value in omega (arith, read, c.len.ensures)

pub returns-clause-grows : goal.returns-clause-grows
returns-clause-grows c =
    let p = c.put_terms.new.pools in
    adds_then c.args.pools.now p _ c.in_ok-terms.ensures.grows
    (adds_then p (record p { terms = c.append.new.self }) _ (terms_add p c.append.new.self (c.deref-2.result.now, c.in_ok-span.ensures.items)) (sums_add (record p { terms = c.append.new.self }) c.push.new.self (_ ∷ [], c.in_ok-sum.ensures.items)))

pub returns-clause-terms : goal.returns-clause-terms
returns-clause-terms c =
    let s = c.args.scope.now in
    let p = c.put_terms.new.pools in
    let ss = c.deref.result.now in
    let ts = c.in_ok-terms.terms.items in
    let open_terms = c.in_ok-terms.ensures.terms in
    let one = length-map ts (flat.term_of p) in
    let two = length-map ss term_of in
    let same = ap length open_terms.means in
    let read = ap length c.deref.ensures.value in
    let few : length ts ≤ TERMS = omega (arith, one, two, same, read, c.len.ensures) in
    let meant =
    ap (map term_of) c.deref.ensures.value
    ∙ c.in_ok-push_steps.ensures.terms
    ∙ ap (λ (l : List Step). map term_of l ++ terms_of (shape_in s.lists.table c.args.source) (map (λ (o : Operand). index_in (scope_in s.lists s.function) (operand_of s.lists s.function o)) c.args.indices.now)) c.new-steps.ensures.items in
    let again : c.deref-3.result.now ≡ ss = c.deref-3.ensures.value ∙ sym c.deref.ensures.value in
    let led_all : c.lead_of_all-total.result ≡ pos (led_by ss) = c.lead_of_all-total.ensures.value ∙ ap (λ (l : List Step). pos (led_by l)) again in
    let near : led_by ss ≤ TERMS * (NO_SIGN_BELOW * SIZE_LIMIT) = subst (λ (l : List Step). led_by l ≤ TERMS * (NO_SIGN_BELOW * SIZE_LIMIT)) again c.lead_of_all-total.ensures.near in
    let fits : FitsSigned w128 c.lead_of_all-total.result = record { sfits = c.lead_of_all-total.type_inv } in
    terms_put p c.append.new.self c.push.new.self _ ss ts c.in_ok-span.span c.in_ok-sum.sum _ open_terms
    (c.in_ok-span.ensures.items ∙ ap (λ (l : List Term). p.terms ++ l) c.deref-2.ensures.value) c.in_ok-span.ensures.span c.in_ok-sum.ensures.items (to_z-of_z w128 c.lead_of_all-total.result fits ∙ led_all) near c.in_ok-sum.ensures.place few meant
