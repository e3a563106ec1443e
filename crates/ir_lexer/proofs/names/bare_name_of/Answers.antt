use Rattle.std.proofs.Common.{◌≡◌, ℕ, Bool, false, cond, List, Some, sym, ap, ◌∙◌}
use Rattle.ir_lexer.specs.Names.{bare_name, is_quoted, unquoted}
use Rattle.ir_lexer.proofs.QuotedTokens.{spelled_name}
use Rattle.ir_lexer.proofs.names.bare_name_of.Goals as goal

pub returns-clause-bytes : goal.returns-clause-bytes
returns-clause-bytes c =
    let plain : is_quoted c.args.spelling.now ≡ false = sym c.is_quoted.ensures ∙ c.if-is_quoted.false in
    ap (λ (name : List ℕ). Some name) c.bare_name.ensures
    ∙ sym (ap (λ (b : Bool). cond b (unquoted c.args.spelling.now) (Some (bare_name c.args.kind c.args.spelling.now))) plain)

pub returns-clause-name : goal.returns-clause-name
returns-clause-name c =
    let plain : is_quoted c.args.spelling.now ≡ false = sym c.is_quoted.ensures ∙ c.if-is_quoted.false in
    spelled_name c.args.kind c.args.spelling.now c.bare_name.result.now c.requires.named c.requires.token
    (ap (λ (name : List ℕ). Some name) c.bare_name.ensures ∙ sym (ap (λ (b : Bool). cond b (unquoted c.args.spelling.now) (Some (bare_name c.args.kind c.args.spelling.now))) plain))
