-- The arrays that a slice is cut into: each byte of one, by its place in the slice.
use Rattle.std.proofs.Common.{◌≡◌, ℕ, zero, suc, ◌+◌, ◌*◌, ◌<◌, List, [], take, drop, get_or, ap, ◌∙◌, arith}
use Rattle.std.proofs.lemmas.List.{get_or-take, get_or-drop, drop-drop}
use Rattle.std.specs.Simd.{first_chunks}

chunk_at : (n count k : ℕ) (xs : List ℕ) → k < count → get_or (first_chunks n count xs) k [] ≡ take n (drop (k * n) xs)
chunk_at n zero k xs inside = absurd (omega arith)
chunk_at n (suc count) zero xs inside =
    let none : 0 * n ≡ 0 = omega arith in
    rw none
chunk_at n (suc count) (suc k) xs inside =
    let next : n + k * n ≡ suc k * n = omega arith in
    chunk_at n count k (drop n xs) (omega arith) ∙ ap (take n) (drop-drop (k * n) n xs ∙ ap (λ (i : ℕ). drop i xs) next)

pub chunk_byte : (bytes : List ℕ) (n count : ℕ) (chunks : List (List ℕ)) → chunks ≡ first_chunks n count bytes → (k j : ℕ) → k < count → j < n
    → get_or (get_or chunks k []) j 0 ≡ get_or bytes (k * n + j) 0
chunk_byte bytes n count chunks cut k j inside here =
    ap (λ (cs : List (List ℕ)). get_or (get_or cs k []) j 0) cut
    ∙ ap (λ (chunk : List ℕ). get_or chunk j 0) (chunk_at n count k bytes inside)
    ∙ get_or-take n (drop (k * n) bytes) j 0 here
    ∙ get_or-drop (k * n) bytes j 0
