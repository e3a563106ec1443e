use Rattle.std.proofs.Common.{List, length, sym, subst, ap, ◌∙◌}
use Rattle.std.proofs.lemmas.List.{length-map}
use Rattle.linkage_rules.specs.Ids.{modules}
use Rattle.module_arena.specs.Lists.{Lists}
use Rattle.link_rules.specs.Linked.{linked_globals}
use Rattle.module_linker.specs.Stages.Declared.{ids_of}
use Rattle.module_linker.specs.Filling.Filling.{IsFilling}
use Rattle.module_linker.specs.Filling.Origins.{AreOrigins, origin_in}
use Rattle.module_linker.proofs.OnFilling.Filled.{ids_count}
use Rattle.module_linker.proofs.OnFilling.Homes.{as_many}
use Rattle.module_linker.proofs.OnFilling.Kept.{origin_there}
use Rattle.module_linker.proofs.OnFilling.Steps.{all_filled}
use Rattle.module_linker.proofs.filling.filling.define_symbols.Goals as goal

pub define_first-requires-clause-origins : goal.define_first-requires-clause-origins
define_first-requires-clause-origins c =
    subst (λ (ps : List Lists). AreOrigins ps c.as_slice-kept.result.now) (sym c.as_slice-all.ensures.value)
    (λ k x at. origin_there c.args.parts.items c.args.bindings c.as_slice-kept.result.now k x c.requires.resolved (c.as_slice-kept.ensures.value ∙ c.in_ok-origins.ensures) at)

pub define_first-requires-clause-many : goal.define_first-requires-clause-many
define_first-requires-clause-many c =
    ap length (c.as_slice-kept.ensures.value ∙ c.in_ok-origins.ensures) ∙ length-map c.args.bindings.symbols (origin_in c.args.bindings) ∙ as_many c.args.parts.items c.args.bindings c.requires.resolved
    ∙ sym (ap length c.requires.ids ∙ ids_count 0 0 0 (linked_globals (modules c.args.parts.items)))

pub define_first-requires-clause-ids : goal.define_first-requires-clause-ids
define_first-requires-clause-ids c = c.requires.ids ∙ sym (ap (λ (ps : List Lists). ids_of (modules ps)) c.as_slice-all.ensures.value)

pub define_first-requires-clause-filling : goal.define_first-requires-clause-filling
define_first-requires-clause-filling c =
    subst (λ (ps : List Lists). IsFilling ps 0 c.args.into.now.arena c.args.copiers.now) (sym c.as_slice-all.ensures.value) (record {
      made = c.requires.declared;
      untargeted = c.requires.untargeted;
      copied = c.requires.copied;
      new_ids = c.requires.new;
    })

pub define_rest-requires-clause-origins : goal.define_rest-requires-clause-origins
define_rest-requires-clause-origins c = λ k x at.
    origin_there c.args.parts.items c.args.bindings c.as_slice-kept.result.now k x c.requires.resolved (c.as_slice-kept.ensures.value ∙ c.in_ok-origins.ensures) at

pub define_rest-requires-clause-many : goal.define_rest-requires-clause-many
define_rest-requires-clause-many c =
    ap length (c.as_slice-kept.ensures.value ∙ c.in_ok-origins.ensures) ∙ length-map c.args.bindings.symbols (origin_in c.args.bindings) ∙ as_many c.args.parts.items c.args.bindings c.requires.resolved
    ∙ sym (ap length c.requires.ids ∙ ids_count 0 0 0 (linked_globals (modules c.args.parts.items)))

pub define_rest-requires-clause-filling : goal.define_rest-requires-clause-filling
define_rest-requires-clause-filling c =
    subst (λ (ps : List Lists). IsFilling ps c.behind_variables-first.result c.define_first.new.into.arena c.args.copiers.now) c.as_slice-all.ensures.value c.in_ok-define_first.ensures

pub returns : goal.returns
returns c =
    let ms = modules c.args.parts.items in
    c.in_ok-define_rest.ensures.made ∙ all_filled ms (length c.args.new.now) (ap length c.requires.ids ∙ ids_count 0 0 0 (linked_globals ms))
