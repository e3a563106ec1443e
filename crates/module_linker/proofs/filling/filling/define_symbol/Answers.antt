use Rattle.std.proofs.Common.{All, Some, None, sym, subst, ap, ◌∙◌}
use Rattle.linkage_rules.specs.Grouped.{group_in}
use Rattle.linkage_rules.specs.Ids.{IsEntryId}
use Rattle.module_arena.specs.View.{module_of}
use Rattle.module_arena.specs.declared.entry.GlobalId.TheVariants as global
use Rattle.module_linker.specs.Stages.Filled.{defined_as}
use Rattle.module_linker.specs.Stages.Definitions.{definition_of}
use Rattle.module_linker.specs.Filling.Filling.{IsBare}
use Rattle.module_linker.proofs.OnFilling.Defining.{bare_definition, home_known, home_within, kind_here, left_declared, name_of_it, plain_defined, table_within, three_ok}
use Rattle.module_linker.proofs.OnFilling.Homes.{IsOfKind}
use Rattle.module_linker.proofs.OnFilling.Kept.{home_kept, variable_kept}
use Rattle.module_linker.proofs.OnFilling.NextSymbol.{plain_id}
use Rattle.module_linker.proofs.filling.filling.define_symbol.Goals as goal

pub returns-in-None : goal.returns-in-None
returns-in-None c =
    let o = c.requires.origin in
    left_declared c.args.parts.now o.resolved_as o.resolved c.args.number o.symbol o.at c.args.into.now.arena c.args.copiers.now c.requires.filling c.args.id c.requires.id (home_kept c.args.parts.now c.args.number c.args.origin.now o None c.in-None.is)

pub initialise-requires-clause-home : goal.initialise-requires-clause-home
initialise-requires-clause-home c =
    let o = c.requires.origin in
    home_known c.args.parts.now o.resolved_as o.resolved c.args.number o.symbol o.at c.args.into.now.arena c.args.copiers.now c.requires.filling c.args.id c.requires.id c.in-Some.home (home_kept c.args.parts.now c.args.number c.args.origin.now o (Some c.in-Some.home) c.in-Some.is)

pub initialise-requires-clause-variable : goal.initialise-requires-clause-variable
initialise-requires-clause-variable c =
    let o = c.requires.origin in
    subst (λ i. IsOfKind i c.in-Some.home.kind) c.in-Variable.is
    (kind_here c.args.parts.now o.resolved_as o.resolved c.args.number o.symbol o.at c.args.into.now.arena c.args.copiers.now c.requires.filling c.args.id c.requires.id c.in-Some.home (home_kept c.args.parts.now c.args.number c.args.origin.now o (Some c.in-Some.home) c.in-Some.is))

pub initialise-requires-clause-known : goal.initialise-requires-clause-known
initialise-requires-clause-known c =
    let parts = c.args.parts.now in
    let b = c.args.into.now.arena in
    let o = c.requires.origin in
    let r = o.resolved_as in
    let s = o.symbol in
    let home = c.in-Some.home in
    let found = home_kept c.args.parts.now c.args.number c.args.origin.now o (Some home) c.in-Some.is in
    let of_kind =
    subst (λ i. IsOfKind i home.kind) c.in-Variable.is (kind_here parts r o.resolved c.args.number s o.at b c.args.copiers.now c.requires.filling c.args.id c.requires.id home found) in
    let entries = c.as_slice-ids.ensures ∙ variable_kept parts c.args.number c.args.origin.now o home c.in-Some.is of_kind in
    subst (All (IsEntryId parts)) (sym entries) (o.resolved.bindings.groups.known s)

pub initialise-requires-clause-declared : goal.initialise-requires-clause-declared
initialise-requires-clause-declared c =
    let parts = c.args.parts.now in
    let b = c.args.into.now.arena in
    let o = c.requires.origin in
    let r = o.resolved_as in
    let s = o.symbol in
    let home = c.in-Some.home in
    let found = home_kept c.args.parts.now c.args.number c.args.origin.now o (Some home) c.in-Some.is in
    let of_kind =
    subst (λ i. IsOfKind i home.kind) c.in-Variable.is (kind_here parts r o.resolved c.args.number s o.at b c.args.copiers.now c.requires.filling c.args.id c.requires.id home found) in
    let entries = c.as_slice-ids.ensures ∙ variable_kept parts c.args.number c.args.origin.now o home c.in-Some.is of_kind in
    let name = name_of_it parts r o.resolved c.args.number s o.at b c.args.copiers.now c.requires.filling c.args.id c.requires.id home found in (
      name,
      subst (λ es. IsBare b (global.Variable c.in-Variable.id) (definition_of parts home es name)) (sym entries)
          (subst (λ i. IsBare b i (definition_of parts home (group_in r.groups s) name)) c.in-Variable.is (bare_definition parts r o.resolved c.args.number s o.at b c.args.copiers.now c.requires.filling c.args.id c.requires.id home found)),
    )

pub returns-in-Variable : goal.returns-in-Variable
returns-in-Variable c =
    let parts = c.args.parts.now in
    let b = c.args.into.now.arena in
    let new = c.initialise.new.into.arena in
    let o = c.requires.origin in
    let r = o.resolved_as in
    let s = o.symbol in
    let home = c.in-Some.home in
    let found = home_kept c.args.parts.now c.args.number c.args.origin.now o (Some home) c.in-Some.is in
    let of_kind =
    subst (λ i. IsOfKind i home.kind) c.in-Variable.is (kind_here parts r o.resolved c.args.number s o.at b c.args.copiers.now c.requires.filling c.args.id c.requires.id home found) in
    let entries = c.as_slice-ids.ensures ∙ variable_kept parts c.args.number c.args.origin.now o home c.in-Some.is of_kind in
    let name = name_of_it parts r o.resolved c.args.number s o.at b c.args.copiers.now c.requires.filling c.args.id c.requires.id home found in
    three_ok c.initialise.result
    (λ made keeps aliases.
    plain_defined parts r o.resolved c.args.number s o.at b c.args.copiers.now c.requires.filling c.args.id c.requires.id home found new
    (made ∙ ap (λ es. defined_as (module_of b) (global.Variable c.in-Variable.id) (definition_of parts home es name)) entries
    ∙ ap (λ i. defined_as (module_of b) i (definition_of parts home (group_in r.groups s) name)) (sym c.in-Variable.is)) keeps aliases)
    (c.initialise.ensures.module name) c.initialise.ensures.keeps c.initialise.ensures.aliases

pub arena_of-arena-requires : goal.arena_of-arena-requires
arena_of-arena-requires c =
    let o = c.requires.origin in
    home_within c.args.parts.now o.resolved_as o.resolved c.args.number o.symbol o.at c.args.into.now.arena c.args.copiers.now c.requires.filling c.args.id c.requires.id c.in-Some.home (home_kept c.args.parts.now c.args.number c.args.origin.now o (Some c.in-Some.home) c.in-Some.is)

pub copier_of-copier-requires : goal.copier_of-copier-requires
copier_of-copier-requires c =
    let o = c.requires.origin in
    table_within c.args.parts.now o.resolved_as o.resolved c.args.number o.symbol o.at c.args.into.now.arena c.args.copiers.now c.requires.filling c.args.id c.requires.id c.in-Some.home (home_kept c.args.parts.now c.args.number c.args.origin.now o (Some c.in-Some.home) c.in-Some.is)

pub define_in-requires-clause-plain : goal.define_in-requires-clause-plain
define_in-requires-clause-plain c = plain_id c.args.id (λ n is. c.in_default.not-Variable n is)

pub define_in-requires-clause-next : goal.define_in-requires-clause-next
define_in-requires-clause-next c = (
  c.args.parts.now,
  c.args.copiers.now,
  c.args.number,
  record {
    origin = c.args.origin.now;
    kept = c.requires.origin;
    at_home = c.in-Some.is;
    is = c.requires.id;
    filling = c.requires.filling;
    there = c.arena_of-arena.ensures.arena;
    copied_by = c.copier_of-copier.ensures;
  },
)

pub returns-in_default : goal.returns-in_default
returns-in_default c =
    c.define_in.ensures c.args.parts.now c.args.copiers.now c.args.number
    (record {
      origin = c.args.origin.now;
      kept = c.requires.origin;
      at_home = c.in-Some.is;
      is = c.requires.id;
      filling = c.requires.filling;
      there = c.arena_of-arena.ensures.arena;
      copied_by = c.copier_of-copier.ensures;
    })
