-- A thread that starts: what is kept of its row.
use Rattle.std.proofs.Common.{ℕ, ◌≡◌, ◌+◌, ◌*◌, ◌<◌, ◌≤◌, inl, inr, true, List, length, ap, ◌∙◌, sym, arith, subst}
use Rattle.std.proofs.lemmas.Bool.{cases_eq}
use Rattle.def_words.specs.declared.Cap.{Cap}
use Rattle.def_memory.specs.declared.Granule.{Granule}
use Rattle.def_memory.specs.Granules.{plain, cap_in, holding}
use Rattle.def_areas.specs.Areas.{frame_place}
use Rattle.def_areas.specs.Touches.{Touches}
use Rattle.law_areas.proofs.Writes.{put_other, put_same}
use Rattle.ct_areas.specs.declared.thread.Thread as row
use Rattle.ct_areas.specs.declared.thread.Fresh.{Fresh}
use Rattle.ct_areas.specs.Starts.{first_row}
use Rattle.ct_areas.specs.Threads.{area_begin, area_end}
use Rattle.ct_areas.proofs.Places.{area_inside}
use Rattle.ct_threads.specs.Kept.{IsKept}
use Rattle.ct_threads.specs.Starts.{IsFresh}
use Rattle.ct_threads.proofs.Clean.{plain_is}

pub fresh_kept : (gs hs : List Granule) (f : Fresh) (t : row.Thread) → t ≡ first_row f → IsFresh (8 * length gs) f
    → ((k : ℕ) → area_begin f.area ≤ k → k < area_end f.area → cap_in gs k ≡ plain 0)
    → hs ≡ holding gs (frame_place (area_begin f.area) 0 + 5) (plain f.first.export) → Touches (area_begin f.area) (area_end f.area) gs hs → IsKept hs true t
fresh_kept gs hs f t is fresh clear wrote touches =
    let at : ℕ = frame_place (area_begin f.area) 0 + 5 in
    let word : Cap = plain f.first.export in
    let le = area_inside (length gs) f.area fresh.area in
    subst (λ (u : row.Thread). IsKept hs true u) (sym is) (record {
      area = rw touches.size fresh.area;
      room = fresh.area.some;
      zero = fresh.zero;
      alive = λ e. omega arith;
      clean = λ k lo hi. inr (rw wrote (elim (cases_eq k at) [
        | inl e ↦ (let lt : k < length gs = omega (arith, hi, le) in
            plain_is (cap_in (holding gs at word) k) f.first.export
            (ap (λ n. cap_in (holding gs at word) n) e ∙ put_same gs at word (subst (λ n. n < length gs) e lt)))
        | inr n ↦ plain_is (cap_in (holding gs at word) k) 0 (ap (λ (g : Granule). g.cap) (put_other gs at k word n) ∙ clear k lo hi)
      ]));
    })
