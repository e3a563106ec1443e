use Rattle.std.proofs.Common.{ap, sym, subst, refl, ◌∙◌, ◌++◌, map, Option, Ok}
use Rattle.std.specs.Prelude.{filter_map, flat_map}
use Rattle.std.proofs.lemmas.Result.{on_ok_weaker}
use Rattle.ir_base.specs.declared.place.Place.{Place}
use Rattle.ir_syntax.specs.declared.item.Item.{Item}
use Rattle.ir_syntax.specs.declared.item.WrittenVariable as the_variable
use Rattle.ir_syntax.specs.declared.item.WrittenAlias as the_alias
use Rattle.ir_syntax.specs.declared.item.Declaration as the_declaration
use Rattle.ir_syntax.specs.declared.item.Definition as the_definition
use Rattle.ir_phrases.specs.Instructions.View.{block_view}
use Rattle.ir_syntax.specs.Functions.{parameter_types}
use Rattle.ir_syntax.specs.View.{item_view, body_view, variable_view, alias_view, head_view, parameter_view}
use Rattle.name_rules.specs.Breaks.{struct_name, global_name, source_place, layout_place, triple_place, variable_demands, alias_demands, head_demands, item_demands}
use Rattle.name_rules.specs.Demand.{is_first, place_of_name}
use Rattle.name_rules.specs.FunctionDemands.{definition_demands}
use Rattle.name_rules.specs.TypeDemands.{type_demands}
use Rattle.type_judge.specs.Gathered.{known_of}
use Rattle.type_judge.specs.Judging.{IsJudged}
use Rattle.name_judge.specs.Seen.{earlier_of}
use Rattle.name_judge.proofs.SeenItem.{none_seen, struct_seen, source_seen, layout_seen, triple_seen, on_ok_two, on_ok_always}
use Rattle.name_judge.proofs.items.check_item.Goals as goal

pub returns-in-SourceFilename-clause-seen : goal.returns-in-SourceFilename-clause-seen
returns-in-SourceFilename-clause-seen c before are =
    on_ok_two c.check_first.result
    (λ none new. source_seen c.args.seen.now c.check_first.new.seen before (item_view c.args.item.now) c.in-SourceFilename.place c.in-SourceFilename.text (ap item_view c.in-SourceFilename.is) are none new)
    c.check_first.ensures.seen c.check_first.ensures.new

pub returns-in-DataLayout-clause-seen : goal.returns-in-DataLayout-clause-seen
returns-in-DataLayout-clause-seen c before are =
    on_ok_two c.check_first-in-DataLayout.result
    (λ none new. layout_seen c.args.seen.now c.check_first-in-DataLayout.new.seen before (item_view c.args.item.now) c.in-DataLayout.place c.in-DataLayout.text (ap item_view c.in-DataLayout.is) are none new)
    c.check_first-in-DataLayout.ensures.seen c.check_first-in-DataLayout.ensures.new

pub returns-in-TargetTriple-clause-seen : goal.returns-in-TargetTriple-clause-seen
returns-in-TargetTriple-clause-seen c before are =
    on_ok_two c.check_first-in-TargetTriple.result
    (λ none new. triple_seen c.args.seen.now c.check_first-in-TargetTriple.new.seen before (item_view c.args.item.now) c.in-TargetTriple.place c.in-TargetTriple.text (ap item_view c.in-TargetTriple.is) are none new)
    c.check_first-in-TargetTriple.ensures.seen c.check_first-in-TargetTriple.ensures.new

pub returns-in-Struct-clause-seen : goal.returns-in-Struct-clause-seen
returns-in-Struct-clause-seen c before are =
    on_ok_weaker c.check_struct.result
    (λ new. struct_seen c.args.seen.now c.check_struct.new.structs before (item_view c.args.item.now) c.in-Struct.name (body_view c.in-Struct.body) (ap item_view c.in-Struct.is) are new)
    (c.check_struct.ensures.seen (filter_map struct_name before) are.structs)

pub returns-in-Variable-clause-seen : goal.returns-in-Variable-clause-seen
returns-in-Variable-clause-seen c before are =
    on_ok_always _
    (none_seen c.args.seen.now before (item_view c.args.item.now)
    (ap (λ (x : Item). source_place (item_view x)) c.in-Variable.is)
    (ap (λ (x : Item). layout_place (item_view x)) c.in-Variable.is)
    (ap (λ (x : Item). triple_place (item_view x)) c.in-Variable.is)
    (ap (λ (x : Item). struct_name (item_view x)) c.in-Variable.is)
    are)

pub returns-in-Alias-clause-seen : goal.returns-in-Alias-clause-seen
returns-in-Alias-clause-seen c before are =
    on_ok_always _
    (none_seen c.args.seen.now before (item_view c.args.item.now)
    (ap (λ (x : Item). source_place (item_view x)) c.in-Alias.is)
    (ap (λ (x : Item). layout_place (item_view x)) c.in-Alias.is)
    (ap (λ (x : Item). triple_place (item_view x)) c.in-Alias.is)
    (ap (λ (x : Item). struct_name (item_view x)) c.in-Alias.is)
    are)

pub returns-in-Declaration-clause-seen : goal.returns-in-Declaration-clause-seen
returns-in-Declaration-clause-seen c before are =
    on_ok_always _
    (none_seen c.args.seen.now before (item_view c.args.item.now)
    (ap (λ (x : Item). source_place (item_view x)) c.in-Declaration.is)
    (ap (λ (x : Item). layout_place (item_view x)) c.in-Declaration.is)
    (ap (λ (x : Item). triple_place (item_view x)) c.in-Declaration.is)
    (ap (λ (x : Item). struct_name (item_view x)) c.in-Declaration.is)
    are)

pub returns-in-Definition-clause-seen : goal.returns-in-Definition-clause-seen
returns-in-Definition-clause-seen c before are =
    on_ok_always _
    (none_seen c.args.seen.now before (item_view c.args.item.now)
    (ap (λ (x : Item). source_place (item_view x)) c.in-Definition.is)
    (ap (λ (x : Item). layout_place (item_view x)) c.in-Definition.is)
    (ap (λ (x : Item). triple_place (item_view x)) c.in-Definition.is)
    (ap (λ (x : Item). struct_name (item_view x)) c.in-Definition.is)
    are)

pub returns-in-Attributes-clause-seen : goal.returns-in-Attributes-clause-seen
returns-in-Attributes-clause-seen c before are =
    none_seen c.args.seen.now before (item_view c.args.item.now)
    (ap (λ (x : Item). source_place (item_view x)) c.in-Attributes.is)
    (ap (λ (x : Item). layout_place (item_view x)) c.in-Attributes.is)
    (ap (λ (x : Item). triple_place (item_view x)) c.in-Attributes.is)
    (ap (λ (x : Item). struct_name (item_view x)) c.in-Attributes.is)
    are

pub returns-in-Metadata-clause-seen : goal.returns-in-Metadata-clause-seen
returns-in-Metadata-clause-seen c before are =
    none_seen c.args.seen.now before (item_view c.args.item.now)
    (ap (λ (x : Item). source_place (item_view x)) c.in-Metadata.is)
    (ap (λ (x : Item). layout_place (item_view x)) c.in-Metadata.is)
    (ap (λ (x : Item). triple_place (item_view x)) c.in-Metadata.is)
    (ap (λ (x : Item). struct_name (item_view x)) c.in-Metadata.is)
    are

pub returns-in-Variable-clause-judged : goal.returns-in-Variable-clause-judged
returns-in-Variable-clause-judged c before are e =
    let known = known_of c.args.known.now in
    let names = filter_map global_name before in
    let same = e ∙ ap (λ (x : Item). earlier_of before (item_view x)) c.in-Variable.is ∙ ap (λ (v : the_variable.WrittenVariable). place_of_name names v.name.name) (sym c.deref.ensures) in
    subst (λ (x : Item). IsJudged (item_demands known before (item_view x)) c.check_variable.result) (sym c.in-Variable.is)
    (subst (λ (v : the_variable.WrittenVariable). IsJudged (variable_demands known names (variable_view v)) c.check_variable.result) c.deref.ensures (c.check_variable.ensures names same))

pub returns-in-Alias-clause-judged : goal.returns-in-Alias-clause-judged
returns-in-Alias-clause-judged c before are e =
    let known = known_of c.args.known.now in
    let names = filter_map global_name before in
    let same = e ∙ ap (λ (x : Item). earlier_of before (item_view x)) c.in-Alias.is ∙ ap (λ (v : the_alias.WrittenAlias). place_of_name names v.name.name) (sym c.deref-in-Alias.ensures) in
    subst (λ (x : Item). IsJudged (item_demands known before (item_view x)) c.check_alias.result) (sym c.in-Alias.is)
    (subst (λ (v : the_alias.WrittenAlias). IsJudged (alias_demands known names (alias_view v)) c.check_alias.result) c.deref-in-Alias.ensures (c.check_alias.ensures names same))

pub returns-in-Declaration-clause-judged : goal.returns-in-Declaration-clause-judged
returns-in-Declaration-clause-judged c before are e =
    let known = known_of c.args.known.now in
    let names = filter_map global_name before in
    let same = e ∙ ap (λ (x : Item). earlier_of before (item_view x)) c.in-Declaration.is ∙ ap (λ (v : the_declaration.Declaration). place_of_name names v.head.name.name) (sym c.deref-in-Declaration.ensures) in
    subst (λ (x : Item). IsJudged (item_demands known before (item_view x)) c.check_declaration.result) (sym c.in-Declaration.is)
    (subst (λ (v : the_declaration.Declaration). IsJudged (head_demands known names (head_view v.head) ++ flat_map (type_demands known) (parameter_types (map parameter_view v.formal.parameters.items))) c.check_declaration.result) c.deref-in-Declaration.ensures (c.check_declaration.ensures names same))

pub returns-in-Definition-clause-judged : goal.returns-in-Definition-clause-judged
returns-in-Definition-clause-judged c before are e =
    let known = known_of c.args.known.now in
    let names = filter_map global_name before in
    let same = e ∙ ap (λ (x : Item). earlier_of before (item_view x)) c.in-Definition.is ∙ ap (λ (v : the_definition.Definition). place_of_name names v.head.name.name) (sym c.deref-in-Definition.ensures) in
    subst (λ (x : Item). IsJudged (item_demands known before (item_view x)) c.check_function.result) (sym c.in-Definition.is)
    (subst (λ (v : the_definition.Definition). IsJudged (head_demands known names (head_view v.head) ++ definition_demands known (map parameter_view v.parameters.items) (map block_view v.blocks.items)) c.check_function.result) c.deref-in-Definition.ensures (c.check_function.ensures names same))

pub returns-in-SourceFilename-clause-judged : goal.returns-in-SourceFilename-clause-judged
returns-in-SourceFilename-clause-judged c before are e =
    let known = known_of c.args.known.now in
    let r = c.check_first.result in
    subst (λ (x : Item). IsJudged (item_demands known before (item_view x)) r)
    (sym c.in-SourceFilename.is)
    (subst (λ (first : Option Place). IsJudged (is_first c.in-SourceFilename.place first) r)
    are.source c.check_first.ensures.judged)

pub returns-in-DataLayout-clause-judged : goal.returns-in-DataLayout-clause-judged
returns-in-DataLayout-clause-judged c before are e =
    let known = known_of c.args.known.now in
    let r = c.check_first-in-DataLayout.result in
    subst (λ (x : Item). IsJudged (item_demands known before (item_view x)) r)
    (sym c.in-DataLayout.is)
    (subst (λ (first : Option Place). IsJudged (is_first c.in-DataLayout.place first) r)
    are.layout c.check_first-in-DataLayout.ensures.judged)

pub returns-in-TargetTriple-clause-judged : goal.returns-in-TargetTriple-clause-judged
returns-in-TargetTriple-clause-judged c before are e =
    let known = known_of c.args.known.now in
    let r = c.check_first-in-TargetTriple.result in
    subst (λ (x : Item). IsJudged (item_demands known before (item_view x)) r)
    (sym c.in-TargetTriple.is)
    (subst (λ (first : Option Place). IsJudged (is_first c.in-TargetTriple.place first) r)
    are.triple c.check_first-in-TargetTriple.ensures.judged)

pub returns-in-Struct-clause-judged : goal.returns-in-Struct-clause-judged
returns-in-Struct-clause-judged c before are e =
    let known = known_of c.args.known.now in
    let r = c.check_struct.result in
    subst (λ (x : Item). IsJudged (item_demands known before (item_view x)) r)
    (sym c.in-Struct.is)
    (c.check_struct.ensures.judged (filter_map struct_name before) are.structs)

pub returns-in-Attributes-clause-judged : goal.returns-in-Attributes-clause-judged
returns-in-Attributes-clause-judged c before are e =
    let known = known_of c.args.known.now in
    subst (λ (x : Item). IsJudged (item_demands known before (item_view x)) (Ok tt))
    (sym c.in-Attributes.is) (record { told = refl })

pub returns-in-Metadata-clause-judged : goal.returns-in-Metadata-clause-judged
returns-in-Metadata-clause-judged c before are e =
    let known = known_of c.args.known.now in
    subst (λ (x : Item). IsJudged (item_demands known before (item_view x)) (Ok tt))
    (sym c.in-Metadata.is) (record { told = refl })
