use Rattle.std.proofs.Common.{◌≡◌, ◌<◌, ◌≤◌, Some, length, refl, sym, ap, ◌∙◌, subst, arith}
use Rattle.std.specs.Prelude.{slice_get}
use Rattle.std.specs.Option.{option_map_or}
use Rattle.std.proofs.lemmas.List.{length-map}
use Rattle.std.proofs.lemmas.Option.{slice_get_past, slice_get_read}
use Rattle.module_arena.specs.View.{module_of}
use Rattle.run_rules.specs.Calls as calls
use Rattle.run_rules.specs.Look.{code_of, function_at, host_of, table}
use Rattle.run_names.specs.declared.callee.CalleeRef.TheVariants as told
use Rattle.run_names.specs.declared.standing.Standing.TheVariants as standing
use Rattle.run_names.specs.Standings.{function_stands}
use Rattle.run_names.specs.Told.{HasCode, alone}
use Rattle.run_names.proofs.Asked.{called_as, called_nothing, called_nowhere, code_counts, made_of}
use Rattle.run_names.proofs.names.Names.callee.Goals as goal

pub returns-then-number-from-clause-value : goal.returns-then-number-from-clause-value
returns-then-number-from-clause-value c =
    let a = c.self.inside.program.now in
    let count = ap (λ l. length l.functions) c.arena.ensures.arena in
    let past : length a.functions ≤ c.in-Some.number = omega (arith, count, c.function_count.ensures, c.from.ensures, c.if-number-from.true) in
    subst (λ x. calls.Nothing ≡ table (alone (module_of x)) c.args.address) c.self.view_is
    (called_nothing a c.arena.ensures.well_formed c.arena.ensures.valid c.args.address c.in-Some.number c.in-Some.ensures.number (slice_get_past a.functions c.in-Some.number past))

pub returns-in-Code-clause-value : goal.returns-in-Code-clause-value
returns-in-Code-clause-value c =
    let a = c.self.inside.program.now in
    let n = c.in-Some.number in
    let count = ap (λ l. length l.functions) c.arena.ensures.arena in
    let kept : length c.self.inside.standings.items ≡ length a.functions = ap length c.self.invariant.2 ∙ length-map a.functions function_stands in
    let inside : n < length c.self.inside.standings.items = omega (arith, count, kept, c.function_count.ensures, c.from.ensures, c.if-number-from.false) in
    let at : slice_get c.self.inside.standings.items n ≡ Some standing.Code = slice_get_read c.self.inside.standings.items _ n _ refl inside c.index.ensures ∙ ap Some c.in-Code.is in
    ap (λ i. option_map_or (code_of (alone (module_of c.args.self.now)) i) (function_at (alone (module_of c.args.self.now)) i) calls.Nothing) c.new.ensures
    ∙ subst (λ x. option_map_or (code_of (alone (module_of x)) n) (function_at (alone (module_of x)) n) calls.Nothing ≡ table (alone (module_of x)) c.args.address) c.self.view_is
    (called_as a c.arena.ensures.well_formed c.arena.ensures.valid c.self.inside.standings.items c.self.invariant.2 c.args.address n standing.Code c.in-Some.ensures.number at)

pub returns-in-Code-clause-code : goal.returns-in-Code-clause-code
returns-in-Code-clause-code c =
    let a = c.self.inside.program.now in
    let n = c.in-Some.number in
    let count = ap (λ l. length l.functions) c.arena.ensures.arena in
    let kept : length c.self.inside.standings.items ≡ length a.functions = ap length c.self.invariant.2 ∙ length-map a.functions function_stands in
    let inside : n < length c.self.inside.standings.items = omega (arith, count, kept, c.function_count.ensures, c.from.ensures, c.if-number-from.false) in
    let at : slice_get c.self.inside.standings.items n ≡ Some standing.Code = slice_get_read c.self.inside.standings.items _ n _ refl inside c.index.ensures ∙ ap Some c.in-Code.is in
    let r = made_of function_stands a.functions c.self.inside.standings.items n standing.Code c.self.invariant.2 at in
    let counts : HasCode a (told.Code c.new.result) = (r.one, subst (λ i. slice_get a.functions i ≡ Some r.one) (sym c.new.ensures) r.at, code_counts r.one r.is) in
    subst (λ x. HasCode x (told.Code c.new.result)) c.self.view_is counts

pub returns-in-Host-clause-value : goal.returns-in-Host-clause-value
returns-in-Host-clause-value c =
    let a = c.self.inside.program.now in
    let n = c.in-Some.number in
    let count = ap (λ l. length l.functions) c.arena.ensures.arena in
    let kept : length c.self.inside.standings.items ≡ length a.functions = ap length c.self.invariant.2 ∙ length-map a.functions function_stands in
    let inside : n < length c.self.inside.standings.items = omega (arith, count, kept, c.function_count.ensures, c.from.ensures, c.if-number-from.false) in
    let at = slice_get_read c.self.inside.standings.items _ n _ refl inside c.index.ensures ∙ ap Some c.in-Host.is in
    subst (λ x. host_of c.in-Host.row ≡ table (alone (module_of x)) c.args.address) c.self.view_is
    (called_as a c.arena.ensures.well_formed c.arena.ensures.valid c.self.inside.standings.items c.self.invariant.2 c.args.address n (standing.Host c.in-Host.row) c.in-Some.ensures.number at)

pub returns-in-Null-clause-value : goal.returns-in-Null-clause-value
returns-in-Null-clause-value c =
    let a = c.self.inside.program.now in
    let n = c.in-Some.number in
    let count = ap (λ l. length l.functions) c.arena.ensures.arena in
    let kept : length c.self.inside.standings.items ≡ length a.functions = ap length c.self.invariant.2 ∙ length-map a.functions function_stands in
    let inside : n < length c.self.inside.standings.items = omega (arith, count, kept, c.function_count.ensures, c.from.ensures, c.if-number-from.false) in
    let at = slice_get_read c.self.inside.standings.items _ n _ refl inside c.index.ensures in
    subst (λ x. calls.Nothing ≡ table (alone (module_of x)) c.args.address) c.self.view_is
    (called_nowhere a c.arena.ensures.well_formed c.arena.ensures.valid c.self.inside.standings.items c.self.invariant.2 c.args.address n c.index.result.now c.in-Some.ensures.number at c.in-Null.is)
