use Rattle.std.proofs.Common.{◌≡◌, ◌<◌, List, [], ◌∷◌, ◌++◌, length, get_or, set, slice_get, Some, sym, ap, ◌∙◌, subst, arith}
use Rattle.std.proofs.lemmas.List.{nil_from_length}
use Rattle.std.proofs.lemmas.Option.{slice_get-get_or}
use Rattle.linkage_rules.specs.Ids.{modules}
use Rattle.linkage_rules.specs.Symbols.{symbols}
use Rattle.linkage_rules.specs.declared.symbol.Symbol.{Symbol}
use Rattle.entry_copy.specs.Tables.{Tables}
use Rattle.module_linker.specs.Ids.Filing.{AreFiled, KnownIds}
use Rattle.module_linker.proofs.OnIds.Called.{one_each}
use Rattle.module_linker.proofs.OnIds.Handed.{AreHanded, all_have, none_handed, one_handed, rest_within}
use Rattle.module_linker.proofs.OnIds.Once.{one_a_part}
use Rattle.module_linker.proofs.OnIds.Stays.{long_as}
use Rattle.module_linker.proofs.ids.ids.set_new_ids.Goals as goal

pub filed-requires-clause-one_each : goal.filed-requires-clause-one_each
filed-requires-clause-one_each c = ap length c.requires.new ∙ one_each (modules c.args.parts.now) ∙ ap length (sym c.requires.resolved.symbols)

pub parts-init : goal.parts-init
parts-init c = none_handed c.in_ok-ids.ids.items c.args.copiers.now

pub parts-preserved : goal.parts-preserved
parts-preserved c =
    let all = c.in_ok-ids.ids.items in
    let left = c.parts.ids.items in
    let rest = c.pop.new.self.items in
    let p = c.in-Some.of_part in
    let before = c.args.copiers.now in
    let now = c.parts.copiers in
    let n = c.len.result in
    let s = c.give.new.copier in
    let h = c.parts.invariant in
    let t : Tables = get_or now n c.index-copiers-len.result in
    let last : left ≡ rest ++ p ∷ [] = c.in-Some.ensures.items in
    let many : length all ≡ length now = one_a_part c.args.parts.now all c.in_ok-ids.ensures.places ∙ sym c.requires.one_each ∙ sym (long_as before now h.others) in
    let place : n ≡ length rest = omega (arith, c.len.ensures, c.pop.new.self.ok.0) in
    let within = rest_within all left rest p before now (length now) h last many in
    let lt : n < length now = omega (arith, within, place) in
    let at : slice_get now (length rest) ≡ Some t = ap (slice_get now) (sym place) ∙ slice_get-get_or now n c.index-copiers-len.result lt in
    one_handed all left rest p before now (set now n s) t s h last at c.give.ensures (ap (λ k. set now k s) place)

pub returns-clause-ids : goal.returns-clause-ids
returns-clause-ids c = λ b made.
    let ps = c.args.parts.now in
    let all = c.in_ok-ids.ids.items in
    let new = c.args.new.now in
    let before = c.args.copiers.now in
    let now = c.parts.copiers in
    let filed : AreFiled ps (symbols (modules ps)) new all = subst (λ (ss : List Symbol). AreFiled ps ss new all) c.requires.resolved.symbols c.in_ok-ids.ensures.filed in
    let none : c.parts.ids.items ≡ [] = nil_from_length c.parts.ids.items (omega (arith, c.in_default.ensures.cases.0, c.parts.ids.ok.0)) in
    all_have ps c.requires.can new c.requires.new all c.in_ok-ids.ensures.places filed b made before now (subst (λ (l : List KnownIds). AreHanded all l before now) none c.parts.invariant)
