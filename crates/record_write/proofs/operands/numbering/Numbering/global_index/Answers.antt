use Rattle.std.proofs.Common.{◌≡◌, ℕ, ◌+◌, [], ◌∷◌, length, ap, sym, subst, ◌∙◌, arith}
use Rattle.module_arena.specs.Known.{AreDistinct}
use Rattle.module_arena.specs.Lists.{Lists}
use Rattle.record_write.proofs.OnOperands.Globals.{number, global_place}
use Rattle.record_write.proofs.operands.numbering.Numbering.global_index.Goals as goal

pub returns-in-Variable : goal.returns-in-Variable
returns-in-Variable c =
    let a = c.args.self.now in
    let same : number a c.args.id ≡ c.from.result = ap (number a) c.in-Variable.is ∙ sym (c.from.ensures ∙ c.number.ensures) in
    ap (λ (n : ℕ). n ∷ []) (global_place a (subst (λ (x : Lists). AreDistinct x) c.self.view_is c.variable_count.ensures.distinct) c.args.id c.requires ∙ same)

pub returns-in-Function : goal.returns-in-Function
returns-in-Function c =
    let a = c.args.self.now in
    let variables : c.from-variables.result ≡ length a.variables = c.from-variables.ensures ∙ c.variable_count.ensures.count ∙ ap (λ (x : Lists). length x.variables) c.self.view_is in
    let id : c.from-in-Function.result ≡ c.in-Function.id = c.from-in-Function.ensures ∙ c.number-in-Function.ensures in
    let is = ap (number a) c.in-Function.is in
    let same : number a c.args.id ≡ c.from-variables.result + c.from-in-Function.result = is ∙ omega (arith, variables, id) in
    ap (λ (n : ℕ). n ∷ []) (global_place a (subst (λ (x : Lists). AreDistinct x) c.self.view_is c.variable_count.ensures.distinct) c.args.id c.requires ∙ same)

pub returns-in-Alias : goal.returns-in-Alias
returns-in-Alias c =
    let a = c.args.self.now in
    let variables : c.from-variables.result ≡ length a.variables = c.from-variables.ensures ∙ c.variable_count.ensures.count ∙ ap (λ (x : Lists). length x.variables) c.self.view_is in
    let functions : c.from-in-Alias.result ≡ length a.functions = c.from-in-Alias.ensures ∙ c.function_count.ensures ∙ ap (λ (x : Lists). length x.functions) c.self.view_is in
    let id : c.from-in-Alias-2.result ≡ c.in-Alias.id = c.from-in-Alias-2.ensures ∙ c.number-in-Alias.ensures in
    let is = ap (number a) c.in-Alias.is in
    let same : number a c.args.id ≡ c.from-variables.result + c.from-in-Alias.result + c.from-in-Alias-2.result = is ∙ omega (arith, variables, functions, id) in
    ap (λ (n : ℕ). n ∷ []) (global_place a (subst (λ (x : Lists). AreDistinct x) c.self.view_is c.variable_count.ensures.distinct) c.args.id c.requires ∙ same)
