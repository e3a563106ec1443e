use Rattle.std.proofs.Common.{◌≡◌, Some, flat_map, slice_get, sym, subst, ap, ◌∙◌}
use Rattle.std.proofs.lemmas.Option.{same_Some, slice_get_within}
use Rattle.linkage_rules.specs.Ids.{modules}
use Rattle.module_arena.specs.Changes.{function_in}
use Rattle.module_arena.specs.Lists.{Lists}
use Rattle.module_arena.specs.UsedNames.{names_in_block}
use Rattle.module_arena.specs.View.{module_of}
use Rattle.module_arena.specs.declared.entry.Function.{Function}
use Rattle.link_rules.specs.Rename.{new_global}
use Rattle.link_rules.specs.Structs.{new_struct}
use Rattle.entry_copy.specs.Copies.{blocks_of}
use Rattle.module_linker.proofs.OnFilling.Bare.{no_body}
use Rattle.module_linker.proofs.OnFilling.BodyCopied.{bare_function, body_known, body_written, copy_known, linked_here, no_body_written, parameter_names}
use Rattle.module_linker.proofs.OnFilling.Copied.{all_new, part_copied}
use Rattle.module_linker.proofs.OnFilling.Keeping.{defined_keeps, keeps_itself}
use Rattle.module_linker.proofs.filling.bodies.define.Goals as goal

pub define-requires-clause-known : goal.define-requires-clause-known
define-requires-clause-known c =
    let a = c.args.arena.now in
    let b = c.args.into.now.arena in
    let f = c.function-function.result.now in
    let at = subst (λ n. slice_get a.functions n ≡ Some f) c.new.ensures c.function-function.ensures in
    let d = c.requires.declared in
    let g = bare_function d.0 d.1 c.args.home d.2 d.3 a b c.args.copier.now c.args.id d.4 c.requires.function f at in
    slice_get_within b.functions c.args.id g.0 g.1

pub define-requires-clause-undefined : goal.define-requires-clause-undefined
define-requires-clause-undefined c = λ x there.
    let a = c.args.arena.now in
    let b = c.args.into.now.arena in
    let home = c.args.home in
    let f = c.function-function.result.now in
    let at = subst (λ n. slice_get a.functions n ≡ Some f) c.new.ensures c.function-function.ensures in
    let d = c.requires.declared in
    let h = d.4 in
    let g = bare_function d.0 d.1 home d.2 d.3 a b c.args.copier.now c.args.id h c.requires.function f at in
    ap (λ (y : Function). y.body) (same_Some x g.0 (sym there ∙ g.1)) ∙ no_body b c.args.id g.0 (linked_here d.0 home a h.there c.requires.function f at d.3) g.2

pub define-requires-clause-body : goal.define-requires-clause-body
define-requires-clause-body c = λ x there.
    let a = c.args.arena.now in
    let b = c.args.into.now.arena in
    let t = c.args.copier.now in
    let home = c.args.home in
    let f = c.function-function.result.now in
    let body = c.in-Some.body in
    let at = subst (λ n. slice_get a.functions n ≡ Some f) c.new.ensures c.function-function.ensures in
    let d = c.requires.declared in
    let parts = d.0 in
    let h = d.4 in
    let g = bare_function parts d.1 home d.2 d.3 a b t c.args.id h c.requires.function f at in
    let bare = ap (function_in b) (same_Some x g.0 (sym there ∙ g.1)) ∙ g.2 in
    let copied = c.in_ok-copy-in-Some.ensures.is (new_struct (modules parts) home.part) (new_global (modules parts) home.part) a b (parameter_names f)
    (part_copied parts b d.1 h.copied h.new_ids home.part a t h.there h.copied_by)
    (body_known parts home a h.there c.requires.function f at body c.in-Some.is c.variable_count-good.ensures.good)
    (all_new parts b d.1 h.copied h.new_ids home.part a t h.there h.copied_by (flat_map names_in_block (blocks_of a (parameter_names f) body))) in
    copy_known parts home a h.there c.requires.function f at body c.in-Some.is b c.args.id d.3 x there bare c.in_ok-copy-in-Some.copy copied

pub returns-in_ok-copy-in-Some-clause-module : goal.returns-in_ok-copy-in-Some-clause-module
returns-in_ok-copy-in-Some-clause-module c = λ parts tables ids name h.
    let a = c.args.arena.now in
    let b = c.args.into.now.arena in
    let t = c.args.copier.now in
    let home = c.args.home in
    let f = c.function-function.result.now in
    let body = c.in-Some.body in
    let at = subst (λ n. slice_get a.functions n ≡ Some f) c.new.ensures c.function-function.ensures in
    let g = bare_function parts tables home ids name a b t c.args.id h c.requires.function f at in
    let copied = c.in_ok-copy-in-Some.ensures.is (new_struct (modules parts) home.part) (new_global (modules parts) home.part) a b (parameter_names f)
    (part_copied parts b tables h.copied h.new_ids home.part a t h.there h.copied_by)
    (body_known parts home a h.there c.requires.function f at body c.in-Some.is c.variable_count-good.ensures.good)
    (all_new parts b tables h.copied h.new_ids home.part a t h.there h.copied_by (flat_map names_in_block (blocks_of a (parameter_names f) body))) in
    c.define.ensures.module ∙ body_written parts home a h.there c.requires.function f at body c.in-Some.is b c.args.id name g.0 g.1 g.2 c.in_ok-copy-in-Some.copy copied ids name

pub returns-in_ok-copy-in-Some-clause-keeps : goal.returns-in_ok-copy-in-Some-clause-keeps
returns-in_ok-copy-in-Some-clause-keeps c = defined_keeps c.args.into.now.arena c.define.new.self c.args.id c.in_ok-copy-in-Some.copy c.define.ensures.set

pub returns-in_ok-copy-in-Some-clause-aliases : goal.returns-in_ok-copy-in-Some-clause-aliases
returns-in_ok-copy-in-Some-clause-aliases c = ap (λ (l : Lists). l.aliases) c.define.ensures.set

pub returns-in-None-clause-module : goal.returns-in-None-clause-module
returns-in-None-clause-module c = λ parts tables ids name h.
    let a = c.args.arena.now in
    let f = c.function-function.result.now in
    let at = subst (λ n. slice_get a.functions n ≡ Some f) c.new.ensures c.function-function.ensures in
    no_body_written parts c.args.home a h.there c.requires.function f at (module_of c.args.into.now.arena) c.args.id ids name c.in-None.is

pub returns-in-None-clause-keeps : goal.returns-in-None-clause-keeps
returns-in-None-clause-keeps c = keeps_itself c.args.into.now.arena
