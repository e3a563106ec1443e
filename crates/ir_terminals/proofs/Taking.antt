-- What the calls that take one token give.
use Rattle.std.proofs.Common.{◌≡◌, ℕ, true, List, [], ◌∷◌, Option, Some, refl, sym, ap, ◌∙◌, add-one}
use Rattle.ir_base.specs.declared.place.Place.{Place}
use Rattle.ir_lexer.specs.Ahead.{Located}
use Rattle.ir_lexer.specs.Names.{IsQuoted}
use Rattle.ir_lexer.specs.Table as rows
use Rattle.ir_lexer.specs.Table.{TokenRow as LexerRow, SpellsRow, kind_of, IsToken}
use Rattle.ir_lexer.specs.Tokens.{Spelled}
use Rattle.ir_lexer.specs.declared.token.TokenKind.{TokenKind}
use Rattle.ir_lexer.specs.declared.token.TokenKind.TheVariants as kind
use Rattle.ir_terminals.specs.PhraseRows.Row.{Done, Row, among, begins, one}
use Rattle.ir_terminals.specs.Position.{Position, text_tokens, tokens_left, stepped, first_kind, first_place, first_spelling, first_terminal, IsFirstToken}
use Rattle.ir_terminals.specs.Role.{class, terminal, terminal_in}
use Rattle.ir_terminals.specs.Terminal.{code}
use Rattle.ir_terminals.specs.Values.{place_of_token}
use Rattle.ir_terminals.specs.declared.terminal.Terminal.{Terminal}
use Rattle.ir_terminals.proofs.Fronts.{drop_next}

-- the row gives the value, and what it leaves is left
abbrev pub IsRead : {A : Type 0} → Row Located A → A → Position → Position → Type 0
IsRead row v p next = (row.run (tokens_left p) ≡ Done v (tokens_left next)) × (next.limits ≡ p.limits) × (next.text ≡ p.text)

pub left_stepped : (p : Position) (t : Located) (more : List Located) → tokens_left p ≡ t ∷ more → tokens_left (stepped p) ≡ more
unfolding tokens_left
left_stepped p t more e = rw add-one (drop_next p.taken (text_tokens p.text) t more e).0

pub took : {A : Type 0} (ks : List ℕ) (f : Located → Option A) (v : A) (p next : Position) (t : Located) (more : List Located) → tokens_left p ≡ t ∷ more → next ≡ stepped p → among (class t) ks ≡ true → f t ≡ Some v → IsRead (one class ks f) v p next
took ks f v p next t more e n a g =
    (rw (e, a, g) (ap (Done v) (sym (ap tokens_left n ∙ left_stepped p t more e))), ap (λ (q : Position). q.limits) n, ap (λ (q : Position). q.text) n)

kind_among : (ks : List ℕ) (kind : TokenKind) (t : Located) → t.token.kind ≡ kind → ((s : List ℕ) → among (code (terminal_in kind s)) ks ≡ true) → among (class t) ks ≡ true
unfolding terminal
kind_among ks kind t k classed = rw k (classed t.token.spelling)

same_kind : (j k : TokenKind) → Some j ≡ Some k → j ≡ k
same_kind j k e = cc

same_terminal : (x y : Terminal) → Some x ≡ Some y → x ≡ y
same_terminal x y e = cc

abbrev spelled_as : TokenKind → List ℕ → Spelled
spelled_as kind s = record { kind = kind; spelling = s }

token_is : (t : Spelled) (kind : TokenKind) → t.kind ≡ kind → t ≡ spelled_as kind t.spelling
token_is t kind e = ap (λ (k : TokenKind). spelled_as k t.spelling) e

-- a token of a kind
pub took_kind : {A : Type 0} (ks : List ℕ) (of_kind : TokenKind → Located → Option A) (kind : TokenKind) (v : A) (p next : Position) → ((s : List ℕ) → among (code (terminal_in kind s)) ks ≡ true) → Some kind ≡ first_kind (tokens_left p) → next ≡ stepped p → ((t : Located) → t.place ≡ first_place p (tokens_left p) → t.token ≡ record { kind = kind; spelling = first_spelling (tokens_left p) } → of_kind kind t ≡ Some v) → IsRead (one class ks (λ t. of_kind t.token.kind t)) v p next
took_kind ks of_kind kind v p next classed h n g = go (tokens_left p) refl h
  where
    go : (ts : List Located) → tokens_left p ≡ ts → Some kind ≡ first_kind ts → IsRead (one class ks (λ t. of_kind t.token.kind t)) v p next
    go [] e h = absurd cc
    go (t ∷ more) e h =
        let k : t.token.kind ≡ kind = sym (same_kind kind t.token.kind h) in
        let given : of_kind kind t ≡ Some v = g t (rw e refl) (token_is t.token kind k ∙ ap (λ (s : List ℕ). spelled_as kind s) (sym (ap first_spelling e))) in
        took ks (λ t. of_kind t.token.kind t) v p next t more e n (kind_among ks kind t k classed) (ap (λ (j : TokenKind). of_kind j t) k ∙ given)

-- a token of a terminal
pub took_terminal : {A : Type 0} (ks : List ℕ) (of_terminal : Terminal → Option A) (x : Terminal) (v : A) (p next : Position) → among (code x) ks ≡ true → of_terminal x ≡ Some v → Some x ≡ first_terminal (tokens_left p) → next ≡ stepped p → IsRead (one class ks (λ t. of_terminal (terminal t.token))) v p next
took_terminal ks of_terminal x v p next a g h n = go (tokens_left p) refl h
  where
    go : (ts : List Located) → tokens_left p ≡ ts → Some x ≡ first_terminal ts → IsRead (one class ks (λ t. of_terminal (terminal t.token))) v p next
    go [] e h = absurd cc
    go (t ∷ more) e h =
        let k : terminal t.token ≡ x = sym (same_terminal x (terminal t.token) h) in
        took ks (λ t. of_terminal (terminal t.token)) v p next t more e n (rw k a) (rw k g)

-- a token of a class, for its place
pub took_place : (ks : List ℕ) (v : Place) (p next : Position) → begins class ks (tokens_left p) ≡ true → v ≡ first_place p (tokens_left p) → next ≡ stepped p → IsRead (one class ks place_of_token) v p next
took_place ks v p next b f n = go (tokens_left p) refl b f
  where
    go : (ts : List Located) → tokens_left p ≡ ts → begins class ks ts ≡ true → v ≡ first_place p ts → IsRead (one class ks place_of_token) v p next
    go [] e b f = absurd cc
    go (t ∷ more) e b f = took ks place_of_token v p next t more e n b (ap Some (sym f))

-- the token that is next is spelled as its kind is
pub first_is_token : (ts : List Located) (kind : TokenKind) (s : List ℕ) → Some kind ≡ first_kind ts → IsFirstToken ts → s ≡ first_spelling ts → IsToken kind s
first_is_token [] kind s h i e = absurd cc
first_is_token (t ∷ ts) kind s h i e = rw (e, same_kind kind t.token.kind h) i

quoted_row : (row : LexerRow) (s : List ℕ) → kind_of row ≡ kind.Quoted → SpellsRow row s → IsQuoted s
quoted_row rows.Quoted s k spells = record { row = rows.Quoted; string = refl; spelled = spells }
quoted_row _ s k spells = absurd cc

byte_row : (row : LexerRow) (s : List ℕ) → kind_of row ≡ kind.ByteString → SpellsRow row s → IsQuoted s
byte_row rows.ByteString s k spells = record { row = rows.ByteString; string = refl; spelled = spells }
byte_row _ s k spells = absurd cc

-- strings and byte strings have a string in them
pub quoted_string : (ts : List Located) (s : List ℕ) → Some kind.Quoted ≡ first_kind ts → IsFirstToken ts → s ≡ first_spelling ts → IsQuoted s
quoted_string ts s h i e =
    let token = first_is_token ts kind.Quoted s h i e in
    quoted_row token.row s token.kind_is token.spelled

pub byte_string : (ts : List Located) (s : List ℕ) → Some kind.ByteString ≡ first_kind ts → IsFirstToken ts → s ≡ first_spelling ts → IsQuoted s
byte_string ts s h i e =
    let token = first_is_token ts kind.ByteString s h i e in
    byte_row token.row s token.kind_is token.spelled
