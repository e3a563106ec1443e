-- Bytes that are gone through four at a time.
use Rattle.std.proofs.Common.{◌≡◌, ℕ, ◌+◌, ◌-◌, List, drop, length, take, ap, subst, arith}
use Rattle.std.specs.List.{prefix_len}
use Rattle.std.proofs.lemmas.List.{drop-drop, take_rest}
use Rattle.run_names.specs.Values.Strings.{is_inside}

-- four more in front of the first zero
pub four_more : (bytes : List ℕ) (count : ℕ) → prefix_len is_inside bytes ≡ count + prefix_len is_inside (drop count bytes)
    → prefix_len is_inside (take (length bytes - count) (drop count bytes)) ≡ 4 + prefix_len is_inside (drop 4 (take (length bytes - count) (drop count bytes)))
    → prefix_len is_inside bytes ≡ count + 4 + prefix_len is_inside (drop (count + 4) bytes)
four_more bytes count done step =
    let rest : prefix_len is_inside (drop count bytes) ≡ 4 + prefix_len is_inside (drop 4 (drop count bytes)) =
    subst (λ xs. prefix_len is_inside xs ≡ 4 + prefix_len is_inside (drop 4 xs)) (take_rest bytes count) step in
    let behind : prefix_len is_inside (drop 4 (drop count bytes)) ≡ prefix_len is_inside (drop (count + 4) bytes) = ap (prefix_len is_inside) (drop-drop 4 count bytes) in
    omega (arith, done, rest, behind)
