-- What a cursor keeps of a text.
use Rattle.std.proofs.Common.{◌≡◌, ℕ, zero, suc, ◌+◌, ◌-◌, ◌<◌, ◌≤◌, Bool, false, List, [], ◌∷◌, length, take, drop, Option, Some, None, Result, Ok, Err, refl, sym, ap, ◌∙◌, arith, add-one}
use Rattle.ir_lexer.specs.Ahead.{AheadIs, Located, TokensAhead, before_all, answered, ahead_within, ahead}
use Rattle.ir_lexer.specs.Lexer.{Lexing, at_start, rest, token_spelling, LiesIn, IsAnswered, Says, answer, after}
use Rattle.ir_lexer.specs.Place.{place_of}
use Rattle.ir_lexer.specs.Tokens.{Begins}
use Rattle.ir_lexer.specs.declared.lexer.TheConstants.{LARGEST}
use Rattle.ir_lexer.specs.declared.token.Token.{Token}
use Rattle.ir_lexer.specs.declared.token.BadByte.{BadByte}
use Rattle.ir_lexer.proofs.AheadSteps.{ahead_step, ahead_is}
use Rattle.ir_lexer.proofs.Answering.{answers_are_right}
use Rattle.ir_lexer.proofs.TokenLists.{begins_less}
use Rattle.ir_terminals.specs.Front.{ahead_behind, ahead_from, front_of, token_in, HasBytes, IsFrontOf, IsSound, IsAt}
use Rattle.ir_terminals.specs.Position.{Position, text_tokens, is_cut_off, end_place, tokens_left, first_place, first_spelling, is_less, is_behind_less, IsFirstToken}
use Rattle.ir_terminals.specs.Role.{terminal}
use Rattle.ir_terminals.specs.declared.cursor.Front.{Front}
use Rattle.ir_terminals.specs.declared.cursor.Standing.{Standing}
use Rattle.ir_terminals.specs.declared.cursor.Standing.TheVariants as standings
use Rattle.ir_terminals.specs.declared.limits.Limits.{Limits}
use Rattle.ir_terminals.specs.declared.terminal.Terminal.{Terminal}

-- each token takes a byte at least
few_within : (n : ℕ) (l : Lexing) → length (ahead_within n l).tokens ≤ length (rest l)
unfolding ahead_within
few_within zero l = omega arith
few_within (suc n) l = go (answer l) (answers_are_right l) (few_within n (after l))
  where
    go : (r : Result (Option Token) BadByte) → Says l r (after l) → length (ahead_within n (after l)).tokens ≤ length (rest (after l)) → length (answered l r (ahead_within n (after l))).tokens ≤ length (rest l)
    go (Ok None) s i = omega arith
    go (Err b) s i = omega arith
    go (Ok (Some t)) s i = omega (arith, begins_less (rest l) (token_spelling l.text t) (rest (after l)) s, i)

no_drop : (s : List ℕ) → drop 0 s ≡ s
no_drop [] = refl
no_drop (b ∷ s) = refl

no_drop_tokens : (s : List Located) → drop 0 s ≡ s
no_drop_tokens [] = refl
no_drop_tokens (b ∷ s) = refl

-- a text has no more tokens than bytes
pub tokens_few : (text : List ℕ) → length (text_tokens text) ≤ length text
unfolding ahead
tokens_few text =
    let few = few_within (suc (length (rest (at_start text)))) (at_start text) in
    let all : length (rest (at_start text)) ≡ length text = ap length (no_drop text) in
    omega (arith, few, all)

-- the lexer's answers
pub front_token : (l new : Lexing) (t : Token) (x : Terminal) → Ok (Some t) ≡ answer l → new ≡ after l → new.text ≡ l.text → Begins (rest l) (token_spelling l.text t) (rest new) → LiesIn l.text t → x ≡ terminal (token_spelling new.text t) → IsFrontOf l (front_of t x) new
front_token l new t x a n text b lies e =
    let step = rw (← a, ← n) at (ahead_step l) in
    record {
      is_ahead = step ∙ ap (λ (all : List ℕ). before_all (record { token = token_spelling all t; place = t.place }) (ahead new)) (sym text);
      text = text;
      sound = record { order = omega (arith, lies.order); within = rw text lies.within; bytes = (rw text b.token.token, e) };
    }

-- a token that few bytes tell
pub front_plain : (l new : Lexing) (t : Token) (s : List ℕ) (f : Front) → IsAnswered l t new → new.text ≡ l.text → s ≡ (token_spelling new.text t).spelling → f ≡ front_of t (terminal (record { kind = t.kind; spelling = s })) → IsFrontOf l f new
front_plain l new t s f k text is e =
    rw e (front_token l new t _ (sym k.answer) k.after text k.says k.placed.0 (ap (λ (bytes : List ℕ). terminal (record { kind = t.kind; spelling = bytes })) is))

-- the answer is the same before a gap as behind it
pub front_behind : (l behind new : Lexing) (f : Front) → ahead behind ≡ ahead l → behind.text ≡ l.text → IsFrontOf behind f new → IsFrontOf l f new
front_behind l behind new f a text i = record { is_ahead = sym a ∙ i.is_ahead; text = i.text ∙ text; sound = i.sound }

-- no bytes are kept
no_bytes : (text : List ℕ) (f : Front) → f.start ≡ 0 → f.«end» ≡ 0 → HasBytes f.standing text f → IsSound text f
no_bytes text f s e has = record { order = omega (arith, s); within = omega (arith, e); bytes = has }

pub front_end : (l new : Lexing) (f : Front) → Ok None ≡ answer l → new ≡ after l → new.text ≡ l.text → f.standing ≡ standings.End → f.place ≡ place_of new.text new.at → f.start ≡ 0 → f.«end» ≡ 0 → IsFrontOf l f new
front_end l new f a n text is place s e =
    let step = rw (← a, ← n) at (ahead_step l) in
    record {
      is_ahead = rw (is, place) (step ∙ ap (λ (all : List ℕ). let ended : TokensAhead = record { tokens = []; bad = false; place = place_of all new.at } in ended) (sym text));
      text = text;
      sound = no_bytes new.text f s e (rw is e);
    }

pub front_bad : (l new : Lexing) (bad : BadByte) (f : Front) → Err bad ≡ answer l → new ≡ after l → new.text ≡ l.text → f.standing ≡ standings.Bad → f.place ≡ bad.place → f.start ≡ 0 → f.«end» ≡ 0 → IsFrontOf l f new
front_bad l new bad f a n text is place s e = record {
  is_ahead = rw (is, place) (rw (← a) at (ahead_step l));
  text = text;
  sound = no_bytes new.text f s e (rw is e);
}

-- at the first token
pub starts_at : (text : List ℕ) (l : Lexing) (front : Front) → length text ≤ LARGEST → IsFrontOf (at_start text) front l → IsAt l front 0 false
starts_at text l front short f = record {
  short = rw f.text short;
  tokens = no_drop_tokens (text_tokens l.text) ∙ ap text_tokens f.text ∙ ap (λ (a : TokensAhead). a.tokens) f.is_ahead;
  bad = ap is_cut_off f.text ∙ ap (λ (a : TokensAhead). a.bad) f.is_ahead;
  place = ap end_place f.text ∙ ap (λ (a : TokensAhead). a.place) f.is_ahead;
  within = omega arith;
  sound = f.sound;
  behind_is = refl;
}

pub drop_next : (n : ℕ) (all : List Located) (t : Located) (more : List Located) → drop n all ≡ t ∷ more → (drop (suc n) all ≡ more) × (suc n ≤ length all)
drop_next zero [] t more e = absurd cc
drop_next zero (x ∷ all) t more e = (no_drop_tokens all ∙ (let f = e in cc), omega arith)
drop_next (suc n) [] t more e = absurd cc
drop_next (suc n) (x ∷ all) t more e = let r = drop_next n all t more e in (r.0, omega (arith, r.1))

not_fewer : (xs : List Located) → xs ≡ [] → 0 < length xs → ⊥
not_fewer xs e h = omega (arith, ap length e)

behind_next : (text : List ℕ) (n : ℕ) (t : Located) (more : List Located) (x : Terminal) → drop n (text_tokens text) ≡ t ∷ more → x ≡ terminal t.token → is_less x ≡ is_behind_less text (suc n)
behind_next text n t more x e f = rw (e, f) refl

-- behind one more token
pub advanced : (l new : Lexing) (front next : Front) (n : ℕ) (behind : Bool) → IsAt l front n behind → 0 < length (drop n (text_tokens l.text)) → IsFrontOf l next new → IsAt new next (n + 1) (is_less front.terminal)
advanced l new front next n behind i h f = go front.standing i.tokens i.bad i.place i.sound.bytes
  where
    go : (standing : Standing) → drop n (text_tokens l.text) ≡ (ahead_behind standing l front).tokens → is_cut_off l.text ≡ (ahead_behind standing l front).bad → end_place l.text ≡ (ahead_behind standing l front).place → HasBytes standing l.text front → IsAt new next (n + 1) (is_less front.terminal)
    go standings.Token tokens bad place bytes =
        let located : Located = record { token = token_spelling l.text (token_in front); place = front.place } in
        let d = drop_next n (text_tokens l.text) located (ahead l).tokens tokens in
        rw add-one (record {
          short = rw f.text i.short;
          tokens = ap (λ (all : List ℕ). drop (suc n) (text_tokens all)) f.text ∙ d.0 ∙ ap (λ (a : TokensAhead). a.tokens) f.is_ahead;
          bad = ap is_cut_off f.text ∙ bad ∙ ap (λ (a : TokensAhead). a.bad) f.is_ahead;
          place = ap end_place f.text ∙ place ∙ ap (λ (a : TokensAhead). a.place) f.is_ahead;
          within = rw f.text d.1;
          sound = f.sound;
          behind_is = rw f.text (behind_next l.text n located (ahead l).tokens front.terminal tokens bytes.1);
        })
    go standings.End tokens bad place bytes = absurd (not_fewer _ tokens h)
    go standings.Bad tokens bad place bytes = absurd (not_fewer _ tokens h)

-- what a cursor has left
pub left_is : (p : Position) (limits : Limits) (l : Lexing) (front : Front) (n : ℕ) (behind : Bool) → record { limits = limits; text = l.text; taken = n } ≡ p → IsAt l front n behind → tokens_left p ≡ (ahead_from l front).tokens
unfolding tokens_left
left_is p limits l front n behind e i = rw (← e) i.tokens

-- the place of what is kept is that of the first token left, or of the end
pub place_is : (p : Position) (limits : Limits) (l : Lexing) (front : Front) (n : ℕ) (behind : Bool) → record { limits = limits; text = l.text; taken = n } ≡ p → IsAt l front n behind → front.place ≡ first_place p (tokens_left p)
place_is p limits l front n behind e i = rw (left_is p limits l front n behind e i, ← e) (go front.standing i.place)
  where
    go : (standing : Standing) → end_place l.text ≡ (ahead_behind standing l front).place → front.place ≡ first_place (record { limits = limits; text = l.text; taken = n }) (ahead_behind standing l front).tokens
    go standings.Token place = refl
    go standings.End place = sym place
    go standings.Bad place = sym place

no_take : (s : List ℕ) → take 0 s ≡ []
no_take [] = refl
no_take (b ∷ s) = refl

-- the bytes of what is kept are those of the first token left, or none
pub bytes_are : (p : Position) (limits : Limits) (l : Lexing) (front : Front) (n : ℕ) (behind : Bool) → record { limits = limits; text = l.text; taken = n } ≡ p → IsAt l front n behind → ((token_spelling l.text (token_in front)).spelling ≡ first_spelling (tokens_left p)) × IsFirstToken (tokens_left p)
bytes_are p limits l front n behind e i = rw (left_is p limits l front n behind e i) (go front.standing i.sound.bytes)
  where
    none : front.«end» ≡ 0 → (token_spelling l.text (token_in front)).spelling ≡ []
    none e =
        let size : front.«end» - front.start ≡ 0 = omega (arith, e) in
        rw size (no_take (drop front.start l.text))

    go : (standing : Standing) → HasBytes standing l.text front → ((token_spelling l.text (token_in front)).spelling ≡ first_spelling (ahead_behind standing l front).tokens) × IsFirstToken (ahead_behind standing l front).tokens
    go standings.Token bytes = (refl, bytes.0)
    go standings.End bytes = (none bytes, tt)
    go standings.Bad bytes = (none bytes, tt)

-- the tokens of all of a text
pub whole_text : (text : List ℕ) → AheadIs text (ahead (at_start text))
whole_text text = rw no_drop at (ahead_is (at_start text))
