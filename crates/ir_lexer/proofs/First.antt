-- The token that reading finds is the longest, and where it finds none, none begins.
use Rattle.std.proofs.Common.{◌&&◌, ◌≡◌, ℕ, zero, suc, ◌≤◌, ◌<◌, List, [], ◌∷◌, ◌++◌, length, take, drop, Bool, true, false, ◌⊎◌, inl, inr, refl, sym, ap, ◌∙◌, arith, Option, Some, None}
use Rattle.std.proofs.lemmas.Option.{same_Some}
use Rattle.ir_lexer.specs.declared.class.Class.{Class}
use Rattle.ir_lexer.specs.declared.token.TokenKind.{TokenKind}
use Rattle.ir_lexer.specs.Class.{byte_class, starts_with, in_word, is_c, is_quote}
use Rattle.ir_lexer.specs.Form.{Spells, longest}
use Rattle.ir_lexer.specs.Table.{TokenRow, Label, Word, ByteString, kind_of, starts, tail_of, SpellsRow, IsToken}
use Rattle.ir_lexer.specs.Tokens.{is_cut, StandsBefore}
use Rattle.ir_lexer.specs.Front.{rows_of, or_else, first_of, unless_cut, token_from, next_token}
use Rattle.ir_lexer.proofs.Fronts.{fits, reaches}
use Rattle.ir_lexer.specs.declared.class.Class.TheVariants as c
use Rattle.ir_lexer.specs.declared.token.TokenKind.TheVariants as k
use Rattle.ir_lexer.proofs.Runs.{bool_cases, run_stops}
use Rattle.ir_lexer.proofs.Rows.{quote_no_word, Among, Wins, WinsAll, Ordered, ordered, listed, StartAll, begun}

-- the row that was found
pub record Found (x : Class) (rs : List TokenRow) (bs : List ℕ) (kind : TokenKind) (n : ℕ) : Type 0 where
  pub row : TokenRow
  pub kind_is : kind_of row ≡ kind
  pub number : ℕ
  pub fits : longest (tail_of row) bs ≡ Some number
  pub number_is : n ≡ suc number
  pub begins : starts row x ≡ true
  pub best : (r : TokenRow) (m : ℕ) → Among r rs → longest (tail_of r) bs ≡ Some m → (suc m < n) ⊎ ((suc m ≡ n) × (kind_of r ≡ kind))

wins : (r : TokenRow) (bs : List ℕ) (rs : List TokenRow) → WinsAll r bs rs → (s : TokenRow) → Among s rs → Wins r bs s
wins r bs [] w s a = absurd a
wins r bs (x ∷ rs) w s (inl e) = rw e w.0
wins r bs (x ∷ rs) w s (inr a) = wins r bs rs w.1 s a

pub found : (x : Class) (rs : List TokenRow) (bs : List ℕ) (kind : TokenKind) (n : ℕ) → StartAll x rs → Ordered bs rs → first_of rs bs ≡ Some (kind, n) → Found x rs bs kind n
found x [] bs kind n s o h = absurd cc
found x (r ∷ rs) bs kind n s o h = go (longest (tail_of r) bs) refl h (λ g. found x rs bs kind n s.1 o.1 g)
  where
    first : (m : ℕ) → longest (tail_of r) bs ≡ Some m → ◌≡◌ {A = TokenKind × ℕ} (kind_of r, suc m) (kind, n) → Found x (r ∷ rs) bs kind n
    first m e p =
        let k : kind_of r ≡ kind = ap (λ q. q.0) p in
        let l : suc m ≡ n = ap (λ q. q.1) p in
        record {
          row = r;
          kind_is = k;
          number = m;
          fits = e;
          number_is = sym l;
          begins = s.0;
          best = λ t j a f. elim a [
            | inl same ↦ (let f2 : longest (tail_of r) bs ≡ Some j = rw (← same) f in let jm : j ≡ m = cc in inr (omega arith, rw same k))
            | inr later ↦ inl (let w = wins r bs rs o.0 t later m j e f in omega arith)
          ];
        }

    later : (longest (tail_of r) bs ≡ None) → Found x rs bs kind n → Found x (r ∷ rs) bs kind n
    later e i = record {
      row = i.row;
      kind_is = i.kind_is;
      number = i.number;
      fits = i.fits;
      number_is = i.number_is;
      begins = i.begins;
      best = λ t j a f. elim a [
        | inl same ↦ absurd (let f2 : longest (tail_of r) bs ≡ Some j = rw (← same) f in cc)
        | inr a2 ↦ i.best t j a2 f
      ];
    }

    go : (o2 : Option ℕ) → longest (tail_of r) bs ≡ o2 → or_else (kind_of r) o2 (first_of rs bs) ≡ Some (kind, n) → (first_of rs bs ≡ Some (kind, n) → Found x rs bs kind n) → Found x (r ∷ rs) bs kind n
    go (Some m) e g again = first m e (same_Some (kind_of r, suc m) (kind, n) g)
    go None e g again = later e (again g)

pub found_none : (rs : List TokenRow) (bs : List ℕ) → first_of rs bs ≡ None → (r : TokenRow) → Among r rs → longest (tail_of r) bs ≡ None
found_none [] bs h r a = absurd a
found_none (x ∷ rs) bs h r a = go (longest (tail_of x) bs) refl h a (λ g later. found_none rs bs g r later)
  where
    go : (o : Option ℕ) → longest (tail_of x) bs ≡ o → or_else (kind_of x) o (first_of rs bs) ≡ None → Among r (x ∷ rs) → (first_of rs bs ≡ None → Among r rs → longest (tail_of r) bs ≡ None) → longest (tail_of r) bs ≡ None
    go (Some m) e g b again = absurd cc
    go None e g (inl same) again = rw same e
    go None e g (inr later) again = again g later

-- a spelling of a row that is a front of the text
pub record InList (b : ℕ) (bs : List ℕ) (row : TokenRow) (s : List ℕ) : Type 0 where
  pub number : ℕ
  pub among : Among row (rows_of (byte_class b))
  pub found : longest (tail_of row) bs ≡ Some number
  pub far : length s ≤ suc number

pub in_list : (b : ℕ) (bs : List ℕ) (row : TokenRow) (s rest : List ℕ) → SpellsRow row s → s ++ rest ≡ b ∷ bs → InList b bs row s
in_list b bs row [] rest h e = absurd h
in_list b bs row (x ∷ s) rest h e =
    let xb : x ≡ b = cc in
    let sbs : s ++ rest ≡ bs = cc in
    let i = reaches (tail_of row) s rest h.1 in
    record { number = i.number; among = rw (← xb) (listed (byte_class x) row h.0); found = rw (← sbs) i.found; far = omega (arith, i.far) }

-- Words that a quote cuts off.
uncut : (cut : Bool) (o : Option (TokenKind × ℕ)) (kind : TokenKind) (n : ℕ) → unless_cut cut o ≡ Some (kind, n) → o ≡ Some (kind, n)
uncut cut None kind n h = absurd cc
uncut true (Some (k.Word, m)) kind n h = absurd cc
uncut false (Some (k.Word, m)) kind n h = h
uncut cut (Some (_, m)) kind n h = h

cut_word : (cut : Bool) (o : Option (TokenKind × ℕ)) (kind : TokenKind) (n : ℕ) → cut ≡ true → o ≡ Some (kind, n) → kind ≡ k.Word → unless_cut cut o ≡ None
cut_word cut o kind n e g w = rw (e, g, w) refl

none_cut : (cut : Bool) (kind : TokenKind) (n : ℕ) → unless_cut cut (Some (kind, n)) ≡ None → (cut ≡ true) × (kind ≡ k.Word)
none_cut true k.Word n h = (refl, refl)
none_cut false k.Word n h = absurd cc
none_cut cut _ n h = absurd cc

and_both : (a b : Bool) → (a && b) ≡ true → (a ≡ true) × (b ≡ true)
and_both true b h = (refl, h)
and_both false b h = absurd cc

no_nil : (a : List ℕ) (b : ℕ) (r : List ℕ) → [] ≡ a ++ b ∷ r → ⊥
no_nil [] b r h = cc
no_nil (x ∷ a) b r h = cc

-- a `c` alone is a word
c_alone : (x : Class) (r : TokenRow) → is_c x ≡ true → starts r x ≡ true → Spells (tail_of r) [] → kind_of r ≡ k.Word
c_alone c.LetterC Label i h s = absurd (no_nil s.inside s.byte s.rest s.parts)
c_alone c.LetterC ByteString i h s = absurd s
c_alone c.LetterC Word i h s = refl
c_alone c.LetterC _ i h s = absurd cc
c_alone _ r i h s = absurd cc

whole_of : (b : ℕ) (bs : List ℕ) (j : ℕ) → suc j ≤ length (b ∷ bs) → (j ≡ 0 → is_cut (b ∷ []) bs ≡ false) → is_cut (take (suc j) (b ∷ bs)) (drop (suc j) (b ∷ bs)) ≡ false
whole_of b bs zero l z = z refl
whole_of b [] (suc j) l z = absurd (omega arith)
whole_of b (y ∷ ys) (suc j) l z = refl

-- before a quote a word has one byte
word_one : (r : TokenRow) (bs : List ℕ) (n : ℕ) → kind_of r ≡ k.Word → starts_with is_quote bs ≡ true → longest (tail_of r) bs ≡ Some n → n ≡ 0
word_one Word [] n w q h = absurd cc
word_one Word (y ∷ ys) n w q h = let z = run_stops in_word y ys (quote_no_word (byte_class y) q) in cc
word_one _ bs n w q h = absurd cc

-- the reading agrees with the relation
pub record IsNext (text : List ℕ) (kind : TokenKind) (n : ℕ) : Type 0 where
  pub some : 0 < n
  pub in_text : n ≤ length text
  pub token : IsToken kind (take n text)
  pub whole : is_cut (take n text) (drop n text) ≡ false
  pub longest : (other : TokenKind) (s rest : List ℕ) → IsToken other s → s ++ rest ≡ text → (length s ≤ n) × (length s ≡ n → other ≡ kind)

whole_next : (b : ℕ) (bs : List ℕ) (kind : TokenKind) (n : ℕ) (row : TokenRow) → kind_of row ≡ kind → starts row (byte_class b) ≡ true → (j : ℕ) → n ≡ suc j → Spells (tail_of row) (take j bs) → suc j ≤ length (b ∷ bs) → token_from (byte_class b) bs ≡ Some (kind, n) → first_of (rows_of (byte_class b)) bs ≡ Some (kind, n) → is_cut (take n (b ∷ bs)) (drop n (b ∷ bs)) ≡ false
whole_next b bs kind n row k_is begins j n_is spelled room h g =
    let cut = is_c (byte_class b) && starts_with is_quote bs in
    let one : j ≡ 0 → is_cut (b ∷ []) bs ≡ false = λ z. elim (bool_cases cut) [
      | inl e ↦ absurd (
          let word = c_alone (byte_class b) row (and_both (is_c (byte_class b)) (starts_with is_quote bs) e).0 begins (rw z at spelled) in
          let none = cut_word cut (first_of (rows_of (byte_class b)) bs) kind n e g (sym k_is ∙ word) in
          cc)
      | inr e ↦ e
    ] in
    rw n_is (whole_of b bs j room one)

pub next_is : (text : List ℕ) (kind : TokenKind) (n : ℕ) → next_token text ≡ Some (kind, n) → IsNext text kind n
unfolding next_token
next_is [] kind n h = absurd cc
next_is (b ∷ bs) kind n h =
    let x = byte_class b in
    let g = uncut (is_c x && starts_with is_quote bs) (first_of (rows_of x) bs) kind n h in
    let i = found x (rows_of x) bs kind n (begun x) (ordered x bs) g in
    let f = fits (tail_of i.row) bs i.number i.fits in
    record {
      some = omega (arith, i.number_is);
      in_text = omega (arith, i.number_is, f.in_text);
      token = rw i.number_is (record { row = i.row; kind_is = i.kind_is; spelled = (i.begins, f.spelled) });
      whole = whole_next b bs kind n i.row i.kind_is i.begins i.number i.number_is f.spelled (omega (arith, f.in_text)) h g;
      longest = λ other s rest t e.
          let j = in_list b bs t.row s rest t.spelled e in
          elim (i.best t.row j.number j.among j.found) [
            | inl less ↦ (omega (arith, j.far), λ same. absurd (omega (arith, j.far)))
            | inr same ↦ (omega (arith, j.far, same.0), λ l. sym t.kind_is ∙ same.1)
          ];
    }

one_byte : (s rest : List ℕ) (b : ℕ) (bs : List ℕ) → length s ≤ 1 → (s ≡ [] → ⊥) → s ++ rest ≡ b ∷ bs → (s ≡ b ∷ []) × (rest ≡ bs)
one_byte [] rest b bs l n e = absurd (n refl)
one_byte (x ∷ []) rest b bs l n e = let h : x ≡ b = cc in let t : rest ≡ bs = cc in (rw h refl, t)
one_byte (x ∷ y ∷ s) rest b bs l n e = absurd (omega arith)

not_empty : (kind : TokenKind) (s : List ℕ) → IsToken kind s → s ≡ [] → ⊥
not_empty kind [] t e = t.spelled
not_empty kind (x ∷ s) t e = cc

-- where only a word was found, which a quote cuts off
only_cut : (b : ℕ) (bs : List ℕ) (found_kind : TokenKind) (m : ℕ) → first_of (rows_of (byte_class b)) bs ≡ Some (found_kind, m) → (is_c (byte_class b) && starts_with is_quote bs) ≡ true → found_kind ≡ k.Word → (kind : TokenKind) (s rest : List ℕ) → StandsBefore kind s rest → s ++ rest ≡ b ∷ bs → ⊥
only_cut b bs found_kind m g cut w kind s rest t e =
    let x = byte_class b in
    let q = (and_both (is_c x) (starts_with is_quote bs) cut).1 in
    let i = found x (rows_of x) bs found_kind m (begun x) (ordered x bs) g in
    let z = word_one i.row bs i.number (i.kind_is ∙ w) q i.fits in
    let j = in_list b bs t.token.row s rest t.token.spelled e in
    let small : length s ≤ 1 = elim (i.best t.token.row j.number j.among j.found) [
      | inl less ↦ omega (arith, j.far, i.number_is, z)
      | inr same ↦ omega (arith, j.far, same.0, i.number_is, z)
    ] in
    let p = one_byte s rest b bs small (not_empty kind s t.token) e in
    let whole : is_cut (b ∷ []) bs ≡ false = rw (p.0, p.1) at t.whole in
    cc

pub next_none : (text : List ℕ) → next_token text ≡ None → (kind : TokenKind) (s rest : List ℕ) → StandsBefore kind s rest → s ++ rest ≡ text → ⊥
unfolding next_token
next_none [] h kind [] rest t e = t.token.spelled
next_none [] h kind (x ∷ s) rest t e = cc
next_none (b ∷ bs) h kind s rest t e = go (first_of (rows_of (byte_class b)) bs) refl h
  where
    go : (o : Option (TokenKind × ℕ)) → first_of (rows_of (byte_class b)) bs ≡ o → unless_cut (is_c (byte_class b) && starts_with is_quote bs) o ≡ None → ⊥
    go None g n =
        let j = in_list b bs t.token.row s rest t.token.spelled e in
        let none = found_none (rows_of (byte_class b)) bs g t.token.row j.among in
        let f = j.found in
        cc
    go (Some (found_kind, m)) g n =
        let w = none_cut (is_c (byte_class b) && starts_with is_quote bs) found_kind m n in
        only_cut b bs found_kind m g w.0 w.1 kind s rest t e
