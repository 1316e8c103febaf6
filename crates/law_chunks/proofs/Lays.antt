-- Chunks in memory: what leaves them as they are, what relinks them, what takes them apart.
use Rattle.std.proofs.Common.{ℕ, zero, suc, ◌≡◌, ◌+◌, ◌-◌, ◌*◌, ◌/◌, ◌%◌, ◌^◌, ◌<◌, ◌≤◌, ◌⊎◌, inl, inr, Bool, true, false, cond, List, [], ◌∷◌, ◌++◌, refl, sym, ap, ◌∙◌, arith, subst}
use Rattle.def_words.specs.declared.Cap.{Cap}
use Rattle.def_memory.specs.declared.Granule.{Granule}
use Rattle.def_chunks.specs.Chunks.{Chunk, is_free, total_size, first_free, head_of, head_at, Lays, Starts, AreChunks}
use Rattle.def_chunks.specs.Gaps.{NoFree}

-- what holds the same at each head lays the same chunks
pub lays_same : (gs hs : List Granule) (ram base at : ℕ) (cs : List Chunk) (next : ℕ) → ((p : ℕ) → Starts p at cs → head_at hs ram p ≡ head_at gs ram p) → Lays gs ram base at cs next → Lays hs ram base at cs next
lays_same gs hs ram base at [] next same h = tt
lays_same gs hs ram base at (c ∷ cs) next same h = (same at (inl refl) ∙ h.0, lays_same gs hs ram base (at + c.size) cs next (λ p s. same p (inr s)) h.1)

-- chunks one after another
pub total_both : (xs ys : List Chunk) → total_size (xs ++ ys) ≡ total_size xs + total_size ys
total_both [] ys = omega arith
total_both (x ∷ xs) ys = let rest = total_both xs ys in omega (arith, rest)

pub free_both : (base at : ℕ) (xs ys : List Chunk) (next : ℕ) → first_free base at (xs ++ ys) next ≡ first_free base at xs (first_free base (at + total_size xs) ys next)
free_both base at [] ys next = let here : at + 0 ≡ at = omega arith in rw here refl
free_both base at (x ∷ xs) ys next =
    let there : at + (x.size + total_size xs) ≡ at + x.size + total_size xs = omega arith in
    rw there (ap (λ n. cond (is_free x) (at - base) n) (free_both base (at + x.size) xs ys next))

pub lays_both : (gs : List Granule) (ram base at : ℕ) (xs ys : List Chunk) (next : ℕ) → Lays gs ram base at (xs ++ ys) next → Lays gs ram base at xs (first_free base (at + total_size xs) ys next) × Lays gs ram base (at + total_size xs) ys next
lays_both gs ram base at [] ys next h = let here : at + 0 ≡ at = omega arith in (tt, rw here h)
lays_both gs ram base at (x ∷ xs) ys next h =
    let there : at + (x.size + total_size xs) ≡ at + x.size + total_size xs = omega arith in
    let rest = lays_both gs ram base (at + x.size) xs ys next h.1 in
    (rw there ((h.0 ∙ ap (λ n. head_of x n) (free_both base (at + x.size) xs ys next), rest.0)), rw there rest.1)

pub lays_join : (gs : List Granule) (ram base at : ℕ) (xs ys : List Chunk) (next : ℕ) → Lays gs ram base at xs (first_free base (at + total_size xs) ys next) → Lays gs ram base (at + total_size xs) ys next → Lays gs ram base at (xs ++ ys) next
lays_join gs ram base at [] ys next a b = let here : at + 0 ≡ at = omega arith in rw here at b
lays_join gs ram base at (x ∷ xs) ys next a b =
    let there : at + (x.size + total_size xs) ≡ at + x.size + total_size xs = omega arith in
    let a_ : Lays gs ram base at (x ∷ xs) (first_free base (at + x.size + total_size xs) ys next) = rw there at a in
    (a_.0 ∙ ap (λ n. head_of x n) (sym (free_both base (at + x.size) xs ys next)), lays_join gs ram base (at + x.size) xs ys next a_.1 (rw there at b))

-- ---- links

pub none_first : (base at : ℕ) (cs : List Chunk) (next : ℕ) → NoFree cs → first_free base at cs next ≡ next
none_first base at [] next h = refl
none_first base at (c ∷ cs) next h = rw h.0 (none_first base (at + c.size) cs next h.1)

-- without a free chunk the link after them doesn't count
pub unlinked : (gs : List Granule) (ram base at : ℕ) (cs : List Chunk) (n m : ℕ) → NoFree cs → Lays gs ram base at cs n → Lays gs ram base at cs m
unlinked gs ram base at [] n m none_ h = tt
unlinked gs ram base at (c ∷ cs) n m none_ h = (h.0 ∙ head_used c (first_free base (at + c.size) cs n) (first_free base (at + c.size) cs m) none_.0, unlinked gs ram base (at + c.size) cs n m none_.1 h.1)
  where
    head_used : (c : Chunk) (n m : ℕ) → is_free c ≡ false → head_of c n ≡ head_of c m
    head_used c n m e = rw e refl

-- the last free chunk gets another link
pub relinked : (gs hs : List Granule) (ram base at : ℕ) (xs : List Chunk) (f : Chunk) (us : List Chunk) (n m : ℕ) → is_free f ≡ true → NoFree us → Lays gs ram base at (xs ++ f ∷ us) n
    → head_at hs ram (at + total_size xs) ≡ head_of f m
    → ((p : ℕ) → Starts p at xs → head_at hs ram p ≡ head_at gs ram p)
    → ((p : ℕ) → Starts p (at + total_size xs + f.size) us → head_at hs ram p ≡ head_at gs ram p)
    → Lays hs ram base at (xs ++ f ∷ us) m
relinked gs hs ram base at xs f us n m free_ none_ h wrote before after =
    let parts = lays_both gs ram base at xs (f ∷ us) n h in
    let first : (k : ℕ) → first_free base (at + total_size xs) (f ∷ us) k ≡ at + total_size xs - base = λ k. rw free_ refl in
    let link : Lays hs ram base at xs (first_free base (at + total_size xs) (f ∷ us) m) =
    lays_same gs hs ram base at xs (first_free base (at + total_size xs) (f ∷ us) m) before (rw (first m ∙ sym (first n)) parts.0) in
    lays_join hs ram base at xs (f ∷ us) m link
    (wrote ∙ ap (λ k. head_of f k) (sym (none_first base (at + total_size xs + f.size) us m none_)), lays_same gs hs ram base (at + total_size xs + f.size) us m after (unlinked gs ram base (at + total_size xs + f.size) us n m none_ parts.1.1))

-- a link inside doesn't matter where a free chunk stands before it
pub first_stays : (base at : ℕ) (xs : List Chunk) (b : Chunk) (us : List Chunk) (n m : ℕ) → is_free b ≡ true → first_free base at (xs ++ b ∷ us) n ≡ first_free base at (xs ++ b ∷ us) m
first_stays base at [] b us n m free_ = rw free_ refl
first_stays base at (a ∷ xs) b us n m free_ = ap (λ k. cond (is_free a) (at - base) k) (first_stays base (at + a.size) xs b us n m free_)

-- ---- lists of chunks

pub are_split : (xs ys : List Chunk) → AreChunks (xs ++ ys) → AreChunks xs × AreChunks ys
are_split [] ys h = (tt, h)
are_split (x ∷ xs) ys h = let rest = are_split xs ys h.1 in ((h.0, rest.0), rest.1)

pub are_join : (xs ys : List Chunk) → AreChunks xs → AreChunks ys → AreChunks (xs ++ ys)
are_join [] ys a b = b
are_join (x ∷ xs) ys a b = (a.0, are_join xs ys a.1 b)

pub total_even : (cs : List Chunk) → AreChunks cs → total_size cs % 8 ≡ 0
total_even [] are = omega arith
total_even (c ∷ cs) are = let rest = total_even cs are.1 in let whole = are.0.whole in omega (arith, rest, whole)

-- ---- where chunks begin

pub starts_low : (p at : ℕ) (cs : List Chunk) → Starts p at cs → at ≤ p
starts_low p at [] h = absurd h
starts_low p at (c ∷ cs) (inl h) = omega (arith, h)
starts_low p at (c ∷ cs) (inr h) = let rest = starts_low p (at + c.size) cs h in omega (arith, rest)

pub starts_high : (p at : ℕ) (cs : List Chunk) → AreChunks cs → Starts p at cs → p + 8 ≤ at + total_size cs
starts_high p at [] are h = absurd h
starts_high p at (c ∷ cs) are (inl h) = let some = are.0.some in omega (arith, h, some)
starts_high p at (c ∷ cs) are (inr h) = let rest = starts_high p (at + c.size) cs are.1 h in omega (arith, rest)

pub starts_even : (p at : ℕ) (cs : List Chunk) → AreChunks cs → at % 8 ≡ 0 → Starts p at cs → p % 8 ≡ 0
starts_even p at [] are even h = absurd h
starts_even p at (c ∷ cs) are even (inl h) = omega (arith, h, even)
starts_even p at (c ∷ cs) are even (inr h) = let whole = are.0.whole in starts_even p (at + c.size) cs are.1 (omega (arith, even, whole)) h
