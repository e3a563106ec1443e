-- Strings: what is read between quotes is what stands there, and quoted spellings have it.
use Rattle.std.proofs.lemmas.Map.Views.{exact_unsigned_eq}
use Rattle.std.proofs.Common.{eq-eqb, ◌≡◌, ◌≢◌, ℕ, suc, ◌+◌, ◌*◌, ◌<◌, List, [], ◌∷◌, ◌++◌, length, take, drop, Bool, true, false, ◌==◌, ◌⊎◌, inl, inr, refl, sym, ap, ◌∙◌, arith, Option, Some, None, length-append}
use Rattle.std.proofs.Math.Seq.{take-append_seam}
use Rattle.std.proofs.lemmas.Bool.{ne_eqb}
use Rattle.ir_lexer.specs.Class.{byte_class, is_quote, no_quote, is_colon, is_at, is_percent, is_c}
use Rattle.ir_lexer.specs.Table.{TokenRow, QuotedLabel, QuotedGlobal, QuotedLocal, Quoted, ByteString, kind_of, SpellsRow}
use Rattle.ir_lexer.specs.Names.{has_string, has_name, IsQuoted, between_quotes}
use Rattle.ir_lexer.specs.Form.{each, run, Done, One, IsUpto, Spells}
use Rattle.ir_lexer.specs.Quoted.{digit_value, SpellsByte, StandsFor, with_byte, unescaped, decode, zeros, is_whole, is_clean, is_text, is_name}
use Rattle.ir_lexer.specs.Laws.{StringsStandForTheirBytes}
use Rattle.ir_lexer.specs.declared.class.Class.{Class}
use Rattle.ir_lexer.specs.declared.class.Class.TheVariants as c
use Rattle.ir_lexer.specs.declared.quoted.Escape.TheVariants.{Plain, Slash, High}
use Rattle.ir_lexer.proofs.Runs.{bool_cases, run_append, run_stops}

ne_of : (a b : ℕ) → (a == b) ≡ false → a ≢ b
ne_of a b h e = let t = eq-eqb a b e in cc

slash_no_digit : digit_value 92 ≡ None
unfolding digit_value
slash_no_digit = refl

no_slash : (d x : ℕ) → digit_value d ≡ Some x → (d == 92) ≡ false
no_slash d x e = elim (bool_cases (d == 92)) [
  | inl t ↦ absurd (let k : digit_value 92 ≡ Some x = rw (exact_unsigned_eq d 92 t) at e in let n = slash_no_digit in cc)
  | inr f ↦ f
]

-- Steps of the reading.
plain_step : (b : ℕ) (s : List ℕ) → (b == 92) ≡ false → decode Plain (b ∷ s) ≡ with_byte b (decode Plain s)
unfolding decode unescaped
plain_step b s e = rw e refl

slash_step : (b : ℕ) (s : List ℕ) → (b == 92) ≡ true → decode Plain (b ∷ s) ≡ decode Slash s
unfolding decode unescaped
slash_step b s e = rw e refl

two_step : (c : ℕ) (s : List ℕ) → (c == 92) ≡ true → decode Slash (c ∷ s) ≡ with_byte 92 (decode Plain s)
unfolding decode unescaped
two_step c s e = rw e refl

high_step : (c x : ℕ) (s : List ℕ) → (c == 92) ≡ false → digit_value c ≡ Some x → decode Slash (c ∷ s) ≡ decode (High x) s
unfolding decode unescaped
high_step c x s e d = rw (e, d) refl

no_step : (c : ℕ) (s : List ℕ) → (c == 92) ≡ false → digit_value c ≡ None → decode Slash (c ∷ s) ≡ None
unfolding decode unescaped
no_step c s e d = rw (e, d) refl

low_step : (x d y : ℕ) (s : List ℕ) → digit_value d ≡ Some y → decode (High x) (d ∷ s) ≡ with_byte (16 * x + y) (decode Plain s)
unfolding decode unescaped
low_step x d y s e = rw e refl

no_low_step : (x d : ℕ) (s : List ℕ) → digit_value d ≡ None → decode (High x) (d ∷ s) ≡ None
unfolding decode unescaped
no_low_step x d s e = rw e refl

ends : (decode Plain [] ≡ Some []) × (decode Slash [] ≡ None) × ((x : ℕ) → decode (High x) [] ≡ None)
unfolding decode
ends = (refl, refl, λ x. refl)

-- what a byte more gives
byte_more : (b : ℕ) (o : Option (List ℕ)) (bytes : List ℕ) → with_byte b o ≡ Some bytes → (bs : List ℕ) × (bytes ≡ b ∷ bs) × (o ≡ Some bs)
byte_more b None bytes h = absurd cc
byte_more b (Some bs) bytes h = (bs, cc, refl)

one_part : (inside bytes : List ℕ) (part : List ℕ) (rest : List ℕ) (b : ℕ) (o : Option (List ℕ)) → inside ≡ part ++ rest → SpellsByte part b → with_byte b o ≡ Some bytes → ((bs : List ℕ) → o ≡ Some bs → StandsFor rest bs) → StandsFor inside bytes
one_part inside bytes part rest b o parts spelled h again =
    let m = byte_more b o bytes h in
    rw m.1 (part, rest, parts, spelled, again m.0 m.2)

digit_cases : (c : ℕ) → ((x : ℕ) × (digit_value c ≡ Some x)) ⊎ (digit_value c ≡ None)
digit_cases c = go (digit_value c) refl
  where
    go : (o : Option ℕ) → digit_value c ≡ o → ((x : ℕ) × (digit_value c ≡ Some x)) ⊎ (digit_value c ≡ None)
    go None e = inr e
    go (Some x) e = inl (x, e)

stands : (inside bytes : List ℕ) → decode Plain inside ≡ Some bytes → StandsFor inside bytes
stands [] bytes h = let e : [] ≡ bytes = (let n = ends.0 in cc) in rw (← e) refl
stands (b ∷ []) bytes h = elim (bool_cases (b == 92)) [
  | inl e ↦ absurd (let k = slash_step b [] e in let n = ends.1 in cc)
  | inr e ↦ one_part (b ∷ []) bytes (b ∷ []) [] b (decode Plain []) refl (inl (refl, ne_of b 92 e)) (sym (plain_step b [] e) ∙ h) (λ bs g. stands [] bs g)
]
stands (b ∷ x ∷ []) bytes h = elim (bool_cases (b == 92)) [
  | inr e ↦ one_part (b ∷ x ∷ []) bytes (b ∷ []) (x ∷ []) b (decode Plain (x ∷ [])) refl (inl (refl, ne_of b 92 e)) (sym (plain_step b (x ∷ []) e) ∙ h) (λ bs g. stands (x ∷ []) bs g)
  | inl e ↦ (let k = sym (slash_step b (x ∷ []) e) ∙ h in elim (bool_cases (x == 92)) [
    | inl f ↦ one_part (b ∷ x ∷ []) bytes (92 ∷ 92 ∷ []) [] 92 (decode Plain []) (let p = exact_unsigned_eq b 92 e in let q = exact_unsigned_eq x 92 f in cc) (inr (inl (refl, refl))) (sym (two_step x [] f) ∙ k) (λ bs g. stands [] bs g)
    | inr f ↦ elim (digit_cases x) [
      | inl d ↦ absurd (let j = high_step x d.0 [] f d.1 in let n = ends.2 d.0 in cc)
      | inr d ↦ absurd (let j = no_step x [] f d in cc)
    ]
  ])
]
stands (b ∷ x ∷ y ∷ s) bytes h = elim (bool_cases (b == 92)) [
  | inr e ↦ one_part (b ∷ x ∷ y ∷ s) bytes (b ∷ []) (x ∷ y ∷ s) b (decode Plain (x ∷ y ∷ s)) refl (inl (refl, ne_of b 92 e)) (sym (plain_step b (x ∷ y ∷ s) e) ∙ h) (λ bs g. stands (x ∷ y ∷ s) bs g)
  | inl e ↦ (let k = sym (slash_step b (x ∷ y ∷ s) e) ∙ h in let p = exact_unsigned_eq b 92 e in elim (bool_cases (x == 92)) [
    | inl f ↦ one_part (b ∷ x ∷ y ∷ s) bytes (92 ∷ 92 ∷ []) (y ∷ s) 92 (decode Plain (y ∷ s)) (let q = exact_unsigned_eq x 92 f in cc) (inr (inl (refl, refl))) (sym (two_step x (y ∷ s) f) ∙ k) (λ bs g. stands (y ∷ s) bs g)
    | inr f ↦ elim (digit_cases x) [
      | inl d ↦ (let j = sym (high_step x d.0 (y ∷ s) f d.1) ∙ k in elim (digit_cases y) [
        | inl g ↦ one_part (b ∷ x ∷ y ∷ s) bytes (92 ∷ x ∷ y ∷ []) s (16 * d.0 + g.0) (decode Plain s) (let q = p in cc) (inr (inr (record { high = x; low = y; high_value = d.0; low_value = g.0; part_is = refl; high_is = d.1; low_is = g.1; byte_is = refl }))) (sym (low_step d.0 y g.0 s g.1) ∙ j) (λ bs i. stands s bs i)
        | inr g ↦ absurd (let i = no_low_step d.0 y s g in cc)
      ])
      | inr d ↦ absurd (let j = no_step x (y ∷ s) f d in cc)
    ]
  ])
]

read_back : (inside bytes : List ℕ) → StandsFor inside bytes → decode Plain inside ≡ Some bytes
read_back inside [] h = rw h ends.0
read_back inside (b ∷ bs) h =
    let again = read_back h.1 bs h.4 in
    let all = h.2 in
    elim h.3 [
      | inl one ↦ (let e : inside ≡ b ∷ h.1 = all ∙ ap (λ p. p ++ h.1) one.0 in rw e (plain_step b h.1 (ne_eqb b 92 one.1) ∙ ap (with_byte b) again))
      | inr (inl two) ↦ (let e : inside ≡ 92 ∷ 92 ∷ h.1 = all ∙ ap (λ p. p ++ h.1) two.0 in rw (e, two.1) (slash_step 92 (92 ∷ h.1) refl ∙ two_step 92 h.1 refl ∙ ap (with_byte 92) again))
      | inr (inr hex) ↦ (
          let e : inside ≡ 92 ∷ hex.high ∷ hex.low ∷ h.1 = all ∙ ap (λ p. p ++ h.1) hex.part_is in
          rw (e, hex.byte_is) (slash_step 92 (hex.high ∷ hex.low ∷ h.1) refl ∙ high_step hex.high hex.high_value (hex.low ∷ h.1) (no_slash hex.high hex.high_value hex.high_is) hex.high_is ∙ low_step hex.high_value hex.low hex.low_value h.1 hex.low_is ∙ ap (with_byte (16 * hex.high_value + hex.low_value)) again))
    ]

-- What is read between quotes is what the string stands for.
pub strings_stand_for : StringsStandForTheirBytes
strings_stand_for inside bytes = (stands inside bytes, read_back inside bytes)

-- Quoted spellings.
name_text : (inside : List ℕ) → is_name inside ≡ true → is_text inside ≡ true
name_text [] h = absurd cc
name_text (b ∷ bs) h = go (zeros (b ∷ bs)) h
  where
    go : (o : Option Bool) → is_clean o ≡ true → is_whole o ≡ true
    go None h = absurd cc
    go (Some z) h = refl

quote_out : (x : Class) → is_quote x ≡ true → no_quote x ≡ false
quote_out c.Quote h = refl
quote_out _ h = absurd cc

-- what stands between the quotes, where the first is behind a front without one
pub record HasInside (test : List ℕ → Bool) (s : List ℕ) : Type 0 where
  pub room : run no_quote s < length s
  pub tested : test (between_quotes s) ≡ true

has_inside : (front : List ℕ) (b : ℕ) (t : List ℕ) (test : List ℕ → Bool) (f : List ℕ → Type 0) → each no_quote front ≡ true → is_quote (byte_class b) ≡ true → IsUpto no_quote test is_quote f t → HasInside test (front ++ b ∷ t)
has_inside front b t test f all quote h =
    let n : run no_quote (front ++ b ∷ t) ≡ length front = omega (arith, run_append no_quote front (b ∷ t) all, run_stops no_quote b t (quote_out (byte_class b) quote)) in
    let behind : drop (suc (length front)) (front ++ b ∷ t) ≡ t = behind_one front b t in
    let m : run no_quote (h.inside ++ h.byte ∷ h.rest) ≡ length h.inside = omega (arith, run_append no_quote h.inside (h.byte ∷ h.rest) h.inside_in, run_stops no_quote h.byte h.rest h.out) in
    let inside : take (run no_quote t) t ≡ h.inside = rw (h.parts, m) (take-append_seam h.inside (h.byte ∷ h.rest)) in
    record {
      room = omega (arith, n, length-append front (b ∷ t));
      tested = rw (n, behind, inside) h.tested;
    }
  where
    behind_one : (front : List ℕ) (b : ℕ) (t : List ℕ) → drop (suc (length front)) (front ++ b ∷ t) ≡ t
    behind_one [] b t = refl
    behind_one (x ∷ front) b t = behind_one front b t

no_quote_at : (x : Class) → is_at x ≡ true → no_quote x ≡ true
no_quote_at c.At h = refl
no_quote_at _ h = absurd cc

no_quote_percent : (x : Class) → is_percent x ≡ true → no_quote x ≡ true
no_quote_percent c.Percent h = refl
no_quote_percent _ h = absurd cc

no_quote_c : (x : Class) → is_c x ≡ true → no_quote x ≡ true
no_quote_c c.LetterC h = refl
no_quote_c _ h = absurd cc

-- the spelling of a label or of a name, with a string in it
pub name_inside : (s : List ℕ) (row : TokenRow) → has_string row ≡ true → has_name (kind_of row) ≡ true → SpellsRow row s → HasInside is_name s
name_inside [] row w n h = absurd h
name_inside (b ∷ s) QuotedLabel w n h = has_inside [] b s is_name (Spells (One is_colon Done)) refl h.0 h.1
name_inside (b ∷ []) QuotedGlobal w n h = absurd h.1
name_inside (b ∷ q ∷ s) QuotedGlobal w n h = has_inside (b ∷ []) q s is_name (Spells Done) (rw (no_quote_at (byte_class b) h.0) refl) h.1.0 h.1.1
name_inside (b ∷ []) QuotedLocal w n h = absurd h.1
name_inside (b ∷ q ∷ s) QuotedLocal w n h = has_inside (b ∷ []) q s is_name (Spells Done) (rw (no_quote_percent (byte_class b) h.0) refl) h.1.0 h.1.1
name_inside s _ w n h = absurd cc

pub inside_of_quoted : (s : List ℕ) → IsQuoted s → HasInside is_text s
inside_of_quoted s q = go s q.row q.string q.spelled
  where
    narrow : (s : List ℕ) → HasInside is_name s → HasInside is_text s
    narrow s h = record { room = h.room; tested = name_text (between_quotes s) h.tested }

    go : (s : List ℕ) (row : TokenRow) → has_string row ≡ true → SpellsRow row s → HasInside is_text s
    go [] row w h = absurd h
    go (b ∷ s) Quoted w h = has_inside [] b s is_text (Spells Done) refl h.0 h.1
    go (b ∷ []) ByteString w h = absurd h.1
    go (b ∷ q ∷ s) ByteString w h = has_inside (b ∷ []) q s is_text (Spells Done) (rw (no_quote_c (byte_class b) h.0) refl) h.1.0 h.1.1
    go s QuotedLabel w h = narrow s (name_inside s QuotedLabel w refl h)
    go s QuotedGlobal w h = narrow s (name_inside s QuotedGlobal w refl h)
    go s QuotedLocal w h = narrow s (name_inside s QuotedLocal w refl h)
    go s _ w h = absurd cc
