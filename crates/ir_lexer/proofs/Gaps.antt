-- Gaps, and the step over a gap and a token.
use Rattle.std.proofs.Common.{◌≡◌, ℕ, zero, suc, ◌+◌, ◌<◌, List, [], ◌∷◌, ◌++◌, length, take, drop, Bool, true, false, not, inl, inr, refl, sym, ap, ◌∙◌, arith, Option, Some, None}
use Rattle.std.proofs.Math.Seq.{take-append_seam, drop-append_seam, drop-length}
use Rattle.std.proofs.lemmas.List.{take-append-drop, length-take-le}
use Rattle.ir_lexer.specs.declared.class.Class.{Class}
use Rattle.ir_lexer.specs.declared.class.Class.TheVariants as c
use Rattle.ir_lexer.specs.declared.token.TokenKind.{TokenKind}
use Rattle.ir_lexer.specs.Class.{byte_class, is_blank, is_semicolon, is_line_feed}
use Rattle.ir_lexer.specs.Table.{TokenRow, starts, IsToken}
use Rattle.ir_lexer.specs.Tokens.{Spelled, gap_state, IsGap, IsLastGap, StandsBefore, IsLongest, Begins, IsBad}
use Rattle.ir_lexer.specs.Front.{next_token, rows_of}
use Rattle.ir_lexer.specs.Gap.{gap_length}
use Rattle.ir_lexer.proofs.Runs.{bool_cases}
use Rattle.ir_lexer.proofs.First.{next_is, next_none}
use Rattle.ir_lexer.proofs.Rows.{Among, listed}

-- What is behind the gap at the front of a text: nothing, a byte at which no token begins, or a token and the rest.
pub data Step : Type 0 where
  End : Step
  Bad : (rest : List ℕ) → Step
  Took : (token : Spelled) (rest : List ℕ) → Step

abbrev pub took : List ℕ → Option (TokenKind × ℕ) → Step
took text None = Bad text
took text (Some (kind, n)) = Took (record { kind = kind; spelling = take n text }) (drop n text)

abbrev pub behind_gap : List ℕ → Step
behind_gap [] = End
behind_gap (b ∷ bs) = took (b ∷ bs) (next_token (b ∷ bs))

abbrev pub step : List ℕ → Step
step text = behind_gap (drop (gap_length false text) text)

-- behind a front that leaves v
pub record Past (w v : Bool) (a b : List ℕ) : Type 0 where
  pub state : gap_state w (a ++ b) ≡ gap_state v b
  pub number : gap_length w (a ++ b) ≡ length a + gap_length v b

pub past : (w v : Bool) (a b : List ℕ) → gap_state w a ≡ Some v → Past w v a b
unfolding gap_length
past w v [] b h = let e : w ≡ v = cc in rw e (record { state = refl; number = omega arith })
past true v (x ∷ a) b h = let i = past (not (is_line_feed (byte_class x))) v a b h in record { state = i.state; number = omega (arith, i.number) }
past false v (x ∷ a) b h = elim (bool_cases (is_blank (byte_class x))) [
  | inl e ↦ (let i = past false v a b (rw e at h) in record { state = rw e i.state; number = rw e (omega (arith, i.number)) })
  | inr e ↦ elim (bool_cases (is_semicolon (byte_class x))) [
    | inl f ↦ (let i = past true v a b (rw (e, f) at h) in record { state = rw (e, f) i.state; number = rw (e, f) (omega (arith, i.number)) })
    | inr f ↦ absurd (let k : None ≡ Some v = rw (e, f) at h in cc)
  ]
]

-- where the gap ends
pub data Ends (text : List ℕ) (w : Bool) : Type 0 where
  at_end : (v : Bool) → gap_state w text ≡ Some v → gap_length w text ≡ length text → Ends text w
  at_byte : (gap : List ℕ) (b : ℕ) (rest : List ℕ) → text ≡ gap ++ b ∷ rest → gap_length w text ≡ length gap → gap_state w gap ≡ Some false → gap_state false (b ∷ []) ≡ None → Ends text w

more_gap : (x : ℕ) (s : List ℕ) (w v : Bool) → ((r : List ℕ) → gap_state w (x ∷ r) ≡ gap_state v r) → gap_length w (x ∷ s) ≡ suc (gap_length v s) → Ends s v → Ends (x ∷ s) w
more_gap x s w v e n (at_end u g l) = at_end u (e s ∙ g) (omega arith)
more_gap x s w v e n (at_byte gap b rest parts l g out) = at_byte (x ∷ gap) b rest (ap (λ t. x ∷ t) parts) (omega arith) (e gap ∙ g) out

pub ends : (text : List ℕ) (w : Bool) → Ends text w
unfolding gap_length
ends [] w = at_end w refl refl
ends (x ∷ s) true = more_gap x s true (not (is_line_feed (byte_class x))) (λ r. refl) refl (ends s (not (is_line_feed (byte_class x))))
ends (x ∷ s) false = elim (bool_cases (is_blank (byte_class x))) [
  | inl e ↦ more_gap x s false false (λ r. rw e refl) (rw e refl) (ends s false)
  | inr e ↦ elim (bool_cases (is_semicolon (byte_class x))) [
    | inl f ↦ more_gap x s false true (λ r. rw (e, f) refl) (rw (e, f) refl) (ends s true)
    | inr f ↦ at_byte [] x s refl (rw (e, f) refl) refl (rw (e, f) refl)
  ]
]

-- no token begins as a gap does
not_gap : (x : Class) (r : TokenRow) → starts r x ≡ true → (is_blank x ≡ false) × (is_semicolon x ≡ false)
not_gap x r h = go x (listed x r h)
  where
    go : (y : Class) → Among r (rows_of y) → (is_blank y ≡ false) × (is_semicolon y ≡ false)
    go c.LineFeed a = absurd a
    go c.Blank a = absurd a
    go c.Semicolon a = absurd a
    go _ a = (refl, refl)

pub token_first : (kind : TokenKind) (s : List ℕ) → IsToken kind s → (b : ℕ) × (t : List ℕ) × (s ≡ b ∷ t) × (gap_state false (b ∷ []) ≡ None)
token_first kind [] t = absurd t.spelled
token_first kind (b ∷ s) t = let n = not_gap (byte_class b) t.row t.spelled.0 in (b, s, refl, rw (n.0, n.1) refl)

-- where a gap ends for good
pub gap_ends : (b : ℕ) (rest : List ℕ) → gap_state false (b ∷ []) ≡ None → (gap_length false (b ∷ rest) ≡ 0) × (gap_state false (b ∷ rest) ≡ None)
unfolding gap_length
gap_ends b rest h = elim (bool_cases (is_blank (byte_class b))) [
  | inl e ↦ absurd (let k : Some false ≡ None = rw e at h in cc)
  | inr e ↦ elim (bool_cases (is_semicolon (byte_class b))) [
    | inl f ↦ absurd (let k : Some true ≡ None = rw (e, f) at h in cc)
    | inr f ↦ (rw (e, f) refl, rw (e, f) refl)
  ]
]

-- behind a gap and a byte that is not of it
pub step_at : (text gap : List ℕ) (b : ℕ) (rest : List ℕ) → text ≡ gap ++ b ∷ rest → IsGap gap → gap_state false (b ∷ []) ≡ None → (step text ≡ took (b ∷ rest) (next_token (b ∷ rest))) × (gap_state false text ≡ None)
step_at text gap b rest e g h =
    let i = past false false gap (b ∷ rest) g in
    let j = gap_ends b rest h in
    let n : gap_length false (gap ++ b ∷ rest) ≡ length gap = omega (arith, i.number, j.0) in
    (rw (e, n, drop-append_seam gap (b ∷ rest)) refl, rw e (i.state ∙ j.1))

-- what a step says of its text
abbrev pub StepIs : List ℕ → Step → Type 0
StepIs text End = IsLastGap text
StepIs text (Bad rest) = (bad : IsBad text) × (rest ≡ bad.byte ∷ bad.rest)
StepIs text (Took t rest) = Begins text t rest

took_is : (text gap : List ℕ) (b : ℕ) (rest : List ℕ) → text ≡ gap ++ b ∷ rest → IsGap gap → gap_state false (b ∷ []) ≡ None → (o : Option (TokenKind × ℕ)) → next_token (b ∷ rest) ≡ o → StepIs text (took (b ∷ rest) o)
took_is text gap b rest e g h None n = (record { gap = gap; byte = b; rest = rest; parts = e; gap_is = g; no_gap = h; no_token = next_none (b ∷ rest) n }, refl)
took_is text gap b rest e g h (Some (kind, n)) m =
    let i = next_is (b ∷ rest) kind n m in
    let whole : take n (b ∷ rest) ++ drop n (b ∷ rest) ≡ b ∷ rest = take-append-drop n (b ∷ rest) in
    record {
      gap = gap;
      parts = rw whole e;
      gap_is = g;
      token = record { token = i.token; whole = i.whole };
      longest = λ k s r t w. omega (arith, (i.longest k s r t.token (w ∙ whole)).0, length-take-le n (b ∷ rest) i.in_text);
    }

-- A step says what the text begins with.
pub step_is : (text : List ℕ) → StepIs text (step text)
step_is text = go (ends text false)
  where
    go : Ends text false → StepIs text (step text)
    go (at_end v g l) = rw (l, drop-length) (v, g)
    go (at_byte gap b rest parts l g out) = rw (step_at text gap b rest parts g out).0 (took_is text gap b rest parts g out (next_token (b ∷ rest)) refl)

longest_took : (text : List ℕ) (t : Spelled) (rest : List ℕ) → text ≡ t.spelling ++ rest → StandsBefore t.kind t.spelling rest → IsLongest t.spelling (t.spelling ++ rest) → (o : Option (TokenKind × ℕ)) → next_token text ≡ o → took text o ≡ Took t rest
longest_took text t rest e token longest None n = absurd (next_none text n t.kind t.spelling rest token (sym e))
longest_took text t rest e token longest (Some (kind, n)) m =
    let i = next_is text kind n m in
    let far = i.longest t.kind t.spelling rest token.token (sym e) in
    let whole : take n text ++ drop n text ≡ t.spelling ++ rest = take-append-drop n text ∙ e in
    let near = longest kind (take n text) (drop n text) (record { token = i.token; whole = i.whole }) whole in
    let same : length t.spelling ≡ n = omega (arith, far.0, near, length-take-le n text i.in_text) in
    let k : kind ≡ t.kind = sym (far.1 same) in
    let a : take n text ≡ t.spelling = rw (← same, e) (take-append_seam t.spelling rest) in
    let b : drop n text ≡ rest = rw (← same, e) (drop-append_seam t.spelling rest) in
    rw (k, a, b) refl

-- The step finds what the text begins with.
pub begins_step : (text : List ℕ) (t : Spelled) (rest : List ℕ) → Begins text t rest → (step text ≡ Took t rest) × (gap_state false text ≡ None)
begins_step text t rest h =
    let f = token_first t.kind t.spelling h.token.token in
    let e : t.spelling ++ rest ≡ f.0 ∷ (f.1 ++ rest) = ap (λ s. s ++ rest) f.2 in
    let at = step_at text h.gap f.0 (f.1 ++ rest) (h.parts ∙ ap (λ r. h.gap ++ r) e) h.gap_is f.3 in
    (at.0 ∙ longest_took (f.0 ∷ (f.1 ++ rest)) t rest (sym e) h.token h.longest (next_token (f.0 ∷ (f.1 ++ rest))) refl, at.1)

no_took : (text : List ℕ) → ((kind : TokenKind) (s more : List ℕ) → StandsBefore kind s more → s ++ more ≡ text → ⊥) → (o : Option (TokenKind × ℕ)) → next_token text ≡ o → took text o ≡ Bad text
no_took text never None e = refl
no_took text never (Some (kind, n)) e = absurd (let i = next_is text kind n e in never kind (take n text) (drop n text) (record { token = i.token; whole = i.whole }) (take-append-drop n text))

-- A bad text begins with no token and is no gap.
pub bad_step : (text : List ℕ) (h : IsBad text) → (step text ≡ Bad (h.byte ∷ h.rest)) × (gap_state false text ≡ None)
bad_step text h =
    let at = step_at text h.gap h.byte h.rest h.parts h.gap_is h.no_gap in
    (at.0 ∙ no_took (h.byte ∷ h.rest) h.no_token (next_token (h.byte ∷ h.rest)) refl, at.1)

-- before a token stands no gap
pub token_no_gap : (s : List ℕ) (kind : TokenKind) (n : ℕ) → next_token s ≡ Some (kind, n) → gap_length false s ≡ 0
token_no_gap s kind n h = go s n (next_is s kind n h).some (token_first kind (take n s) (next_is s kind n h).token)
  where
    go : (s : List ℕ) (n : ℕ) → 0 < n → (b : ℕ) × (t : List ℕ) × (take n s ≡ b ∷ t) × (gap_state false (b ∷ []) ≡ None) → gap_length false s ≡ 0
    go [] zero some f = absurd (omega arith)
    go [] (suc n) some f = absurd (let k = f.2 in cc)
    go (b ∷ bs) zero some f = absurd (omega arith)
    go (b ∷ bs) (suc n) some f =
        let same : f.0 ≡ b = (let k = f.2 in cc) in
        (gap_ends b bs (rw same at f.3)).0
