use Rattle.std.proofs.Common.{◌≡◌, Some, length, slice_get, subst, sym, ap, ◌∙◌, arith}
use Rattle.std.proofs.lemmas.Result.{err_from_is_err_and}
use Rattle.module_arena.specs.Changes.{alias_in}
use Rattle.module_arena.specs.Known.{KnowsAlias, counts}
use Rattle.module_arena.specs.Lists.{Lists}
use Rattle.module_arena.specs.Valid.{alias_demands}
use Rattle.module_arena.specs.View.{module_of}
use Rattle.entry_verify.proofs.OnTypes.Judging.{leads_next, fails_next, leads_end}
use Rattle.entry_verify.proofs.OnEntries.EntriesFound.{alias_at, alias_known, so_many_aliases}
use Rattle.path_verify.proofs.all_entries.judge_aliases.Goals as goal

pub judge_alias-requires : goal.judge_alias-requires
judge_alias-requires c =
    let b = c.arena-arena.result.now in
    subst (λ (d : Lists). KnowsAlias (length d.table.types) (counts d) c.alias.result.now) c.arena-arena.ensures
    (alias_known b c.variable_count-known.ensures.good c.new.result c.alias.result.now c.alias.ensures)

pub aliases-init : goal.aliases-init
aliases-init c = λ r j. j

pub aliases-preserved : goal.aliases-preserved
aliases-preserved c =
    let a = c.args.judge.now in
    let at : slice_get a.aliases c.aliases.number ≡ Some c.alias.result.now = (λ j. slice_get (sym c.arena-arena.ensures j).aliases (sym c.new.ensures j)) ∙ c.alias.ensures in
    leads_next (alias_demands (module_of a)) (module_of a).aliases c.aliases.number (alias_in a c.alias.result.now) (alias_at a c.aliases.number c.alias.result.now at) c.in_ok-judge_alias.ensures c.aliases.invariant

pub returns-in_err-judge_alias : goal.returns-in_err-judge_alias
returns-in_err-judge_alias c =
    let a = c.args.judge.now in
    let at : slice_get a.aliases c.aliases.number ≡ Some c.alias.result.now = (λ j. slice_get (sym c.arena-arena.ensures j).aliases (sym c.new.ensures j)) ∙ c.alias.ensures in
    let p = err_from_is_err_and c.from_residual.result c.from_residual.ensures.1 in
    rw (p.1, p.2) (fails_next (alias_demands (module_of a)) (module_of a).aliases c.aliases.number (alias_in a c.alias.result.now) _ (alias_at a c.aliases.number c.alias.result.now at) c.in_err-judge_alias.ensures c.aliases.invariant)

pub returns : goal.returns
returns c =
    let a = c.args.judge.now in
    let many = so_many_aliases a in
    let same = ap (λ (d : Lists). length d.aliases) c.arena-arena.ensures in
    leads_end (alias_demands (module_of a)) (module_of a).aliases c.aliases.number (omega (arith, many, same)) c.aliases.invariant
