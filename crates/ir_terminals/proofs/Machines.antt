-- Tokens that are taken one by one.
use Rattle.std.proofs.Common.{◌≡◌, ◌<◌, List, [], ◌∷◌, length, Some, None, refl, ap, arith}
use Rattle.ir_lexer.specs.Ahead.{Located}
use Rattle.ir_terminals.specs.PhraseRows.Row.{Done, Bad, TokenMove, On, Ends, Stops, run_machine}
use Rattle.ir_terminals.specs.Position.{Position, tokens_left, stepped, first_terminal}
use Rattle.ir_terminals.specs.Role.{terminal}
use Rattle.ir_terminals.specs.declared.terminal.Terminal.{Terminal}
use Rattle.ir_terminals.proofs.Taking.{left_stepped}

-- the token that is next, and those behind it
pub record IsFirst (x : Terminal) (ts : List Located) : Type 0 where
  pub token : Located
  pub more : List Located
  pub all : ts ≡ token ∷ more
  pub is : terminal token.token ≡ x

pub first_is : (x : Terminal) (ts : List Located) → Some x ≡ first_terminal ts → IsFirst x ts
first_is x [] h = absurd cc
first_is x (t ∷ ts) h = record { token = t; more = ts; all = refl; is = cc }

none_is : (ts : List Located) → None ≡ first_terminal ts → ts ≡ []
none_is [] h = refl
none_is (t ∷ ts) h = absurd cc

behind : (x : Terminal) (p next : Position) (f : IsFirst x (tokens_left p)) → next ≡ stepped p → tokens_left next ≡ f.more
behind x p next f n = rw n (left_stepped p f.token f.more f.all)

pub shorter : (x : Terminal) (p next : Position) → Some x ≡ first_terminal (tokens_left p) → next ≡ stepped p → length (tokens_left next) < length (tokens_left p)
shorter x p next h n =
    let f = first_is x (tokens_left p) h in
    omega (arith, ap length (behind x p next f n), ap length f.all)

pub some_left : (x : Terminal) (p : Position) → Some x ≡ first_terminal (tokens_left p) → 0 < length (tokens_left p)
some_left x p h = let f = first_is x (tokens_left p) h in omega (arith, ap length f.all)

module _ {S A : Type 0} (step : S → Terminal → TokenMove S A) where
  pub went_on : (s m : S) (x : Terminal) (p next : Position) → Some x ≡ first_terminal (tokens_left p) → step s x ≡ On m → next ≡ stepped p → run_machine (λ s t. step s (terminal t.token)) s (tokens_left p) ≡ run_machine (λ s t. step s (terminal t.token)) m (tokens_left next)
  went_on s m x p next h e n =
      let f = first_is x (tokens_left p) h in
      rw (f.all, behind x p next f n, f.is, e) refl

  pub ended : (s : S) (a : A) (x : Terminal) (p next : Position) → Some x ≡ first_terminal (tokens_left p) → step s x ≡ Ends a → next ≡ stepped p → run_machine (λ s t. step s (terminal t.token)) s (tokens_left p) ≡ Done a (tokens_left next)
  ended s a x p next h e n =
      let f = first_is x (tokens_left p) h in
      rw (f.all, behind x p next f n, f.is, e) refl

  pub stopped : (s : S) (x : Terminal) (p : Position) → Some x ≡ first_terminal (tokens_left p) → step s x ≡ Stops → run_machine (λ s t. step s (terminal t.token)) s (tokens_left p) ≡ Bad (tokens_left p)
  stopped s x p h e =
      let f = first_is x (tokens_left p) h in
      rw (f.all, f.is, e) refl

  pub at_end : (s : S) (p : Position) → None ≡ first_terminal (tokens_left p) → run_machine (λ s t. step s (terminal t.token)) s (tokens_left p) ≡ Bad (tokens_left p)
  at_end s p h = rw (none_is (tokens_left p) h) refl
