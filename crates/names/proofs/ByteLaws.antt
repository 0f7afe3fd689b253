-- Bytes and the number that they make: names are the same when their numbers are.
use mathlib.Core.Path.{◌≡◌, refl}
use mathlib.Core.Bool.{◌&&◌}
use mathlib.Core.List.{List}
use Prim.Native.Nat.{ℕ, zero, suc, ◌+◌, ◌*◌, ◌≤◌, ◌<◌, ◌^◌}
use lib.Dec.{eqb}
use lib.ListN.{length, get_or}
use native.Mathlib.Nat.{add-zero, add_assoc}
use native.Mathlib.Omega.{arith}
use Rattle.meaning.specs.Name.{same_name}
use Rattle.meaning.specs.File.{u32, u64, name_at}
use Rattle.meaning.proofs.Says.{Says, says_as, ◌also◌, says_eq, agree}
use Rattle.names.proofs.NameLaws.{rest, rest_cons, rest_none, rest_whole}

module _ (file : List ℕ) (at : ℕ) where
  -- the number that the n bytes from byte k on make, the first the lowest
  unfoldable little : (k n : ℕ) → ℕ
  little k zero = 0
  little k (suc n) = get_or file (at + k) 0 + 256 * little (k + 1) n

  -- the number of a name by its first four bytes and its last eight
  little_name : little 0 12 ≡ u32 file at + 4294967296 * u64 file (at + 4)
  unfolding little u32 u64
  little_name = simp (add-zero, add_assoc) (omega arith)

module _ (file : List ℕ) (bytes : (i : ℕ) → get_or file i 0 < 256) (a b : ℕ) (h : a + 12 ≤ length file) (i : b + 12 ≤ length file) where
  says_rest : (n k : ℕ) → k + n ≡ 12 → Says (same_name (rest file a k) (rest file b k)) (little file a k n ≡ little file b k n)
  unfolding same_name little
  says_rest zero k e = rw (rest_none file a k (omega arith), rest_none file b k (omega arith)) (λ e. refl, λ e. refl)
  says_rest (suc n) k e =
      let p = bytes (a + k) in
      let q = bytes (b + k) in
      rw (rest_cons file a k (omega arith) h, rest_cons file b k (omega arith) i)
      (says_as (says_eq {m = get_or file (a + k) 0} {n = get_or file (b + k) 0} also says_rest n (k + 1) (omega arith))
      (λ t. omega (arith, t.0, t.1), λ e. (omega (arith, p, q), omega (arith, p, q))))

  -- four bytes are a number below 2^32
  below : (at : ℕ) → u32 file at < 2 ^ 32
  unfolding u32
  below at = omega (arith, bytes at, bytes (at + 1), bytes (at + 2), bytes (at + 3))

  pub same_numbers : {p q r s : ℕ} → p ≡ u64 file (a + 4) → q ≡ u64 file (b + 4) → r ≡ u32 file a → s ≡ u32 file b
      → (eqb p q && eqb r s) ≡ same_name (name_at file a) (name_at file b)
  same_numbers {p} {q} {r} {s} v w x y =
      let f = little_name file a in
      let g = little_name file b in
      rw (rest_whole file a, rest_whole file b)
      (agree (eqb p q && eqb r s) (same_name (rest file a 0) (rest file b 0)) (says_eq {m = p} {n = q} also says_eq {m = r} {n = s})
      (says_as (says_rest 12 0 refl) (
        λ e. (omega (arith, f, g, below a, below b), omega (arith, f, g, below a, below b)),
        λ t. omega (arith, f, g, t.0, t.1),
      )))
