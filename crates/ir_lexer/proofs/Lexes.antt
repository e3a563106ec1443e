-- Where a lexer stands.
use Rattle.std.proofs.Common.{◌≡◌, ℕ, ◌-◌, ◌<◌, ◌≤◌, List, [], ◌∷◌, length, take, drop, get_or, true, Option, Some, None, IfSome, refl, sym, arith}
use Rattle.ir_base.proofs.Pieces.{rest_whole}
use Rattle.ir_lexer.specs.declared.token.TokenKind.{TokenKind}
use Rattle.ir_lexer.specs.Class.{byte_class}
use Rattle.ir_lexer.specs.Front.{next_token, token_from}
use Rattle.ir_lexer.specs.declared.class.Class.{Class}
use Rattle.ir_lexer.specs.Lexer.{is_nil}
use Rattle.ir_lexer.specs.Table.{IsToken}
use Rattle.ir_lexer.proofs.First.{next_is}

pub nothing_next : (s : List ℕ) → is_nil s ≡ true → next_token s ≡ None
unfolding next_token
nothing_next [] h = refl
nothing_next (b ∷ s) h = absurd cc

pub front_fits : (s : List ℕ) (o : Option (TokenKind × ℕ)) → o ≡ next_token s → IfSome o (λ found. found.1 ≤ length s)
front_fits s None h = tt
front_fits s (Some (kind, n)) h = (next_is s kind n (sym h)).in_text

pub front_spelled : (s : List ℕ) (o : Option (TokenKind × ℕ)) → o ≡ next_token s → IfSome o (λ found. IsToken found.0 (take found.1 s))
front_spelled s None h = tt
front_spelled s (Some (kind, n)) h = (next_is s kind n (sym h)).token

-- the token at the front, by its first byte
pub next_by : (s : List ℕ) (x : Class) (o : Option (TokenKind × ℕ)) → 0 < length s → x ≡ byte_class (get_or s 0 0) → o ≡ token_from x (take (length s - 1) (drop 1 s)) → o ≡ next_token s
unfolding next_token
next_by [] x o some is e = absurd (omega arith)
next_by (b ∷ s) x o some is e = let k : o ≡ token_from x s = rw rest_whole at e in rw (← is) k
