use Rattle.std.proofs.Common.{◌≡◌, refl, sym, ap, ◌∙◌}
use Rattle.std.proofs.lemmas.Option.{same_Some}
use Rattle.module_arena.specs.Changes.{function_in}
use Rattle.module_arena.specs.Module.{Function}
use Rattle.module_arena.specs.View.{module_of}
use Rattle.module_arena.specs.Renamed.{own}
use Rattle.extract_rules.proofs.Entries.{get_within}
use Rattle.extract_rules.proofs.Keeping.{function_at}
use Rattle.extract_core.specs.declared.fates.fates.Fate.TheVariants.{Kept}
use Rattle.extract_core.specs.Fates.Fates.{function_as}
use Rattle.extract_core.specs.Defining.Filling.{defined_as}
use Rattle.extract_core.proofs.OnDefining.Bodies.{parameter_names, body_known, body_named, copy_known, defined_there, no_body_there}
use Rattle.extract_core.proofs.OnDefining.Changed.{keeps_all_same, defined_keeps_all}
use Rattle.extract_core.proofs.defining.defining.define_kept.Goals as goal

pub define-requires-clause-body : goal.define-requires-clause-body
define-requires-clause-body c = λ g there.
    let a = c.args.from.now in
    let b = c.args.into.now.arena in
    let t = c.args.copier.now in
    let f = c.function-function.result.now in
    let at = c.function-function.ensures in
    let body = c.in-Some.body in
    let copied = c.in_ok-copy-in-Some.ensures.is own own a b (parameter_names f) c.requires.copies
    (body_known a c.args.id f body at c.in-Some.is c.variable_count-good.ensures.good)
    (body_named a c.args.id f body at c.in-Some.is t (c.requires.names (function_in a f) (function_at a c.args.id f at) refl)) in
    copy_known a c.args.id f body at c.in-Some.is b c.args.new g there (c.requires.parameters (function_in a f) (function_in b g) (function_at a c.args.id f at) (function_at b c.args.new g there)) c.in_ok-copy-in-Some.copy copied

pub returns-in_ok-copy-in-Some-clause-module : goal.returns-in_ok-copy-in-Some-clause-module
returns-in_ok-copy-in-Some-clause-module c = λ w seen.
    let a = c.args.from.now in
    let b = c.args.into.now.arena in
    let t = c.args.copier.now in
    let f = c.function-function.result.now in
    let at = c.function-function.ensures in
    let body = c.in-Some.body in
    let x = get_within b.functions c.args.new c.requires.here in
    let g = x.0 in
    let there = x.1 in
    let copied = c.in_ok-copy-in-Some.ensures.is own own a b (parameter_names f) c.requires.copies
    (body_known a c.args.id f body at c.in-Some.is c.variable_count-good.ensures.good)
    (body_named a c.args.id f body at c.in-Some.is t (c.requires.names (function_in a f) (function_at a c.args.id f at) refl)) in
    let same : function_in a f ≡ w = same_Some (function_in a f) w (sym (function_at a c.args.id f at) ∙ seen) in
    c.define.ensures.module
    ∙ defined_there a c.args.id f body at c.in-Some.is b c.args.new g there (c.requires.parameters (function_in a f) (function_in b g) (function_at a c.args.id f at) (function_at b c.args.new g there)) c.in_ok-copy-in-Some.copy copied
    ∙ ap (λ (y : Function). defined_as (module_of b) c.args.new (function_as Kept y)) same

pub returns-in_ok-copy-in-Some-clause-keeps : goal.returns-in_ok-copy-in-Some-clause-keeps
returns-in_ok-copy-in-Some-clause-keeps c = defined_keeps_all c.args.into.now.arena c.define.new.self c.args.new c.in_ok-copy-in-Some.copy c.define.ensures.set

pub returns-in-None-clause-module : goal.returns-in-None-clause-module
returns-in-None-clause-module c = λ w seen.
    let a = c.args.from.now in
    let b = c.args.into.now.arena in
    let f = c.function-function.result.now in
    let same : function_in a f ≡ w = same_Some (function_in a f) w (sym (function_at a c.args.id f c.function-function.ensures) ∙ seen) in
    no_body_there a b c.args.new f c.in-None.is ∙ ap (λ (y : Function). defined_as (module_of b) c.args.new (function_as Kept y)) same

pub returns-in-None-clause-keeps : goal.returns-in-None-clause-keeps
returns-in-None-clause-keeps c = keeps_all_same c.args.into.now.arena
