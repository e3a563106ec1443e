-- The blocks of numbers in their pages.
use Rattle.std.proofs.Common.{◌≡◌, ℕ, ◌+◌, ◌/◌, ◌%◌, ◌<◌, ◌≤◌, List, [], ◌∷◌, ◌++◌, length, set, get_or, refl, sym, ap, ◌∙◌, arith, true, false, ◌⊎◌, inl, inr}
use Rattle.std.specs.Prelude.{◌≢◌}
use Rattle.std.proofs.lemmas.Bool.{cases_eq, cases_lt, cases_order, false≢true}
use Rattle.std.proofs.lemmas.List.{length-set, length_push, get_or-set_same, get_or-set_other, get_or_push, get_or_append_left, get_or_past, get_or_default, nil_from_length}
use Rattle.ir_memory.specs.declared.kept.KeptBlock.{KeptBlock}
use Rattle.ir_memory.specs.declared.kind.BlockKind.TheVariants.{Stack}
use Rattle.ir_memory.specs.Seen.{ended_block}
use Rattle.ir_memory.specs.Numbered.{row, page, kept_in, numbered, IsPaged}
use Rattle.ir_memory.proofs.Numbers.{length-numbered, read-numbered}

-- ---- a row

-- nothing is kept of a block of which each part is that of one that has ended
pub gone_block : (b : KeptBlock) → b.live ≡ false → b.mixed ≡ false → b.start ≡ 0 → b.size ≡ 0 → length b.bytes ≡ 0 → b.kind ≡ Stack → b ≡ ended_block
gone_block b live mixed start size none kind = λ i. record { start = start i; size = size i; kind = kind i; live = live i; bytes = nil_from_length b.bytes none i; mixed = mixed i }

-- a row that is read is that row, whatever stands for one that is not there
pub row_read : (rows : List KeptBlock) (r : ℕ) (b : KeptBlock) → r < length rows → b ≡ get_or rows r b → b ≡ row rows r
row_read rows r b lt is = is ∙ get_or_default rows r b ended_block lt

pub row_past : (rows : List KeptBlock) (r : ℕ) → length rows ≤ r → row rows r ≡ ended_block
row_past rows r le = get_or_past rows r ended_block le

-- a live block has a row
pub row_there : (rows : List KeptBlock) (r : ℕ) → (row rows r).live ≡ true → r < length rows
row_there rows r live = elim (cases_lt r (length rows)) [
  | inl lt ↦ lt
  | inr le ↦ absurd (false≢true (ap (λ (b : KeptBlock). b.live) (sym (row_past rows r le)) ∙ live))
]

-- a row more
pub pushed_here : (rows : List KeptBlock) (b : KeptBlock) (r : ℕ) → length rows ≡ r → row (rows ++ b ∷ []) r ≡ b
pushed_here rows b r e = get_or_push rows b ended_block r e

pub pushed_others : (rows : List KeptBlock) (b : KeptBlock) (r : ℕ) → length rows ≡ r → (k : ℕ) → k ≢ r → row (rows ++ b ∷ []) k ≡ row rows k
pushed_others rows b r e k n = elim (cases_lt k (length rows)) [
  | inl lt ↦ get_or_append_left rows (b ∷ []) ended_block k lt
  | inr le ↦
      row_past (rows ++ b ∷ []) k (omega (arith, le, n, e, length_push rows b))
      ∙ sym (row_past rows k le)
]

-- no rows
pub no_row : (k : ℕ) → row [] k ≡ ended_block
no_row k = row_past [] k (omega arith)

-- ---- a page

module _ (pages : List (List KeptBlock)) where
  pub page_past : (p : ℕ) → length pages ≤ p → page pages p ≡ []
  page_past p le = get_or_past pages p [] le

  -- a page that is read
  pub page_read : (p : ℕ) (rows : List KeptBlock) → p < length pages → rows ≡ get_or pages p rows → rows ≡ page pages p
  page_read p rows lt is = is ∙ get_or_default pages p rows [] lt

  -- a number whose page is there
  pub page_there : (count i : ℕ) → IsPaged count pages → i < count → i / 64 < length pages
  page_there count i h lt = omega (arith, h.enough, lt)

  -- where one row of a page changes, one number has another block
  pub kept_here : (i : ℕ) (rows : List KeptBlock) → i / 64 < length pages → kept_in (set pages (i / 64) rows) i ≡ row rows (i % 64)
  kept_here i rows lt = ap (λ (x : List KeptBlock). row x (i % 64)) (get_or-set_same pages (i / 64) rows [] lt)

  pub kept_others : (i : ℕ) (rows : List KeptBlock) → i / 64 < length pages → ((j : ℕ) → j ≢ i % 64 → row rows j ≡ row (page pages (i / 64)) j) → (k : ℕ) → k ≢ i → kept_in (set pages (i / 64) rows) k ≡ kept_in pages k
  kept_others i rows lt same k n = elim (cases_eq (k / 64) (i / 64)) [
    | inl e ↦
        ap (λ (q : ℕ). row (page (set pages (i / 64) rows) q) (k % 64)) e
        ∙ ap (λ (x : List KeptBlock). row x (k % 64)) (get_or-set_same pages (i / 64) rows [] lt)
        ∙ same (k % 64) (λ m. n (omega (arith, m, e)))
        ∙ ap (λ (q : ℕ). row (page pages q) (k % 64)) (sym e)
    | inr m ↦ ap (λ (x : List KeptBlock). row x (k % 64)) (get_or-set_other pages (i / 64) (k / 64) rows [] m)
  ]

  -- a page with as many rows as before
  pub paged_set : (count p : ℕ) (rows : List KeptBlock) → IsPaged count pages → p < length pages → (p ≡ count / 64 → length rows ≡ length (page pages p)) → IsPaged count (set pages p rows)
  paged_set count p rows h lt long =
      record {
        enough = omega (arith, h.enough, length-set pages p rows);
        few = omega (arith, h.few, length-set pages p rows);
        last = elim (cases_eq (count / 64) p) [
          | inl e ↦
              ap (λ (q : ℕ). length (page (set pages p rows) q)) e
              ∙ ap length (get_or-set_same pages p rows [] lt)
              ∙ long (sym e)
              ∙ ap (λ (q : ℕ). length (page pages q)) (sym e)
              ∙ h.last
          | inr m ↦ ap length (get_or-set_other pages p (count / 64) rows [] m) ∙ h.last
        ];
      }

  -- ---- one block more

  -- in a page of its own
  pub page_new : (count : ℕ) → IsPaged count pages → count % 64 ≡ 0 → length pages ≡ count / 64
  page_new count h z = omega (arith, h.enough, h.few, z)

  pub new_paged : (count : ℕ) (b : KeptBlock) → IsPaged count pages → count % 64 ≡ 0 → IsPaged (count + 1) (pages ++ (b ∷ []) ∷ [])
  new_paged count b h z =
      let many = length_push pages (b ∷ []) in
      let next : length pages ≡ (count + 1) / 64 = omega (arith, h.enough, h.few, z) in
      let one : length (b ∷ []) ≡ 1 = refl in
      record {
        enough = omega (arith, h.enough, h.few, z, many);
        few = omega (arith, h.enough, h.few, z, many);
        last = ap length (get_or_push pages (b ∷ []) [] ((count + 1) / 64) next) ∙ omega (arith, one, z);
      }

  pub new_here : (count : ℕ) (b : KeptBlock) → IsPaged count pages → count % 64 ≡ 0 → kept_in (pages ++ (b ∷ []) ∷ []) count ≡ b
  new_here count b h z =
      ap (λ (x : List KeptBlock). row x (count % 64)) (get_or_push pages (b ∷ []) [] (count / 64) (page_new count h z))
      ∙ ap (λ (r : ℕ). row (b ∷ []) r) z

  pub new_others : (count : ℕ) (b : KeptBlock) → IsPaged count pages → count % 64 ≡ 0 → (k : ℕ) → k ≢ count → kept_in (pages ++ (b ∷ []) ∷ []) k ≡ kept_in pages k
  new_others count b h z k n = go (cases_order (k / 64) (length pages))
    where
      one : length (b ∷ []) ≡ 1
      one = refl

      go : (k / 64 ≡ length pages) ⊎ ((k / 64 < length pages) ⊎ (length pages < k / 64)) → kept_in (pages ++ (b ∷ []) ∷ []) k ≡ kept_in pages k
      go (inl e) =
          ap (λ (x : List KeptBlock). row x (k % 64)) (get_or_push pages (b ∷ []) [] (k / 64) (sym e))
          ∙ row_past (b ∷ []) (k % 64) (omega (arith, one, e, n, z, page_new count h z))
          ∙ sym (no_row (k % 64))
          ∙ ap (λ (x : List KeptBlock). row x (k % 64)) (sym (page_past (k / 64) (omega (arith, e))))
      go (inr (inl lt)) = ap (λ (x : List KeptBlock). row x (k % 64)) (get_or_append_left pages ((b ∷ []) ∷ []) [] (k / 64) lt)
      go (inr (inr gt)) =
          ap (λ (x : List KeptBlock). row x (k % 64)) (get_or_past (pages ++ (b ∷ []) ∷ []) (k / 64) [] (omega (arith, gt, length_push pages (b ∷ []))))
          ∙ ap (λ (x : List KeptBlock). row x (k % 64)) (sym (page_past (k / 64) (omega (arith, gt))))

  -- behind the rows of the last page
  pub last_there : (count : ℕ) → IsPaged count pages → count % 64 ≢ 0 → count / 64 < length pages
  last_there count h z = omega (arith, h.enough, z)

  pub more_paged : (count : ℕ) (b : KeptBlock) → IsPaged count pages → count % 64 ≢ 0 → IsPaged (count + 1) (set pages (count / 64) (page pages (count / 64) ++ b ∷ []))
  more_paged count b h z =
      let p = count / 64 in
      let rows = page pages p ++ b ∷ [] in
      let long = length_push (page pages p) b in
      record {
        enough = omega (arith, h.enough, z, length-set pages p rows);
        few = omega (arith, h.few, length-set pages p rows);
        last = elim (cases_eq ((count + 1) / 64) p) [
          | inl e ↦
              ap (λ (q : ℕ). length (page (set pages p rows) q)) e
              ∙ ap length (get_or-set_same pages p rows [] (last_there count h z))
              ∙ omega (arith, long, h.last, e)
          | inr m ↦
              ap length (get_or-set_other pages p ((count + 1) / 64) rows [] m ∙ page_past ((count + 1) / 64) (omega (arith, m, h.few)))
              ∙ omega (arith, m)
        ];
      }

  pub more_here : (count : ℕ) (b : KeptBlock) → IsPaged count pages → count % 64 ≢ 0 → kept_in (set pages (count / 64) (page pages (count / 64) ++ b ∷ [])) count ≡ b
  more_here count b h z = kept_here count (page pages (count / 64) ++ b ∷ []) (last_there count h z) ∙ pushed_here (page pages (count / 64)) b (count % 64) h.last

  pub more_others : (count : ℕ) (b : KeptBlock) → IsPaged count pages → count % 64 ≢ 0 → (k : ℕ) → k ≢ count → kept_in (set pages (count / 64) (page pages (count / 64) ++ b ∷ [])) k ≡ kept_in pages k
  more_others count b h z = kept_others count (page pages (count / 64) ++ b ∷ []) (last_there count h z) (pushed_others (page pages (count / 64)) b (count % 64) h.last)

-- ---- the table

-- a live block is read of a row that is there
pub live_row : (count : ℕ) (pages : List (List KeptBlock)) (i : ℕ) (d : KeptBlock) → i < length (numbered count (kept_in pages)) → (get_or (numbered count (kept_in pages)) i d).live ≡ true → i % 64 < length (page pages (i / 64))
live_row count pages i d h live =
    row_there (page pages (i / 64)) (i % 64)
    (ap (λ (b : KeptBlock). b.live) (sym (read-numbered count (kept_in pages) i d (omega (arith, h, length-numbered count (kept_in pages))))) ∙ live)
