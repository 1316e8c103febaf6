use Rattle.std.proofs.Common.{ℕ, ◌≡◌, ◌*◌, replicate, arith}
use Rattle.std.proofs.lemmas.List.{length-replicate}
use Rattle.ct_planes.proofs.Holding.{holds_new, kept_bytes, words_back}
use Rattle.ct_planes.proofs.bytes.Bytes.new.Goals as goal

pub invariant_of-result : goal.invariant_of-result
invariant_of-result c =
    let n = c.args.count in
    let zeros : c.in_ok-bytes.bytes.items ≡ replicate {A = ℕ} (8 * n) 0 = c.in_ok-bytes.ensures.items_if_clones_equal (λ y h. h) in
    rw zeros (kept_bytes (replicate n 0) (replicate (8 * n) 0) (omega (arith, length-replicate {A = ℕ} (8 * n) 0, c.requires)) (holds_new n))

pub returns : goal.returns
returns c =
    let n = c.args.count in
    let zeros : c.in_ok-bytes.bytes.items ≡ replicate {A = ℕ} (8 * n) 0 = c.in_ok-bytes.ensures.items_if_clones_equal (λ y h. h) in
    rw zeros (words_back (replicate n 0) (replicate (8 * n) 0) (holds_new n))
