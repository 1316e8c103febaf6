use Rattle.std.proofs.Common.{◌≡◌, true, false, List, [], Some, None, sym, ap, ◌∙◌}
use Rattle.ct_entry.specs.Listed.{DeviceRow}
use Rattle.def_image.specs.Parts.{PartsRow}
use Rattle.def_image.specs.declared.format.TheConstants.{DEVICE}
use Rattle.def_image.specs.Regions.{RegionRow, trusted_region}
use Rattle.def_image.specs.Checks.{first, walked}
use Rattle.def_image.specs.Lying.{overlaps_native, is_laid, device_asked}
use Rattle.def_image.specs.First.{first_some}
use Rattle.ct_image.specs.Lain.{span_asked}
use Rattle.ct_image.proofs.Firsts.{regions_walk, devices_at, over_native, trusted_astray, heap_astray, beyond}
use Rattle.ct_image.proofs.Spanned.{later_same}
use Rattle.ct_image.proofs.Asked.{later_asked}
use Rattle.ct_image.proofs.lying.region_fault.Goals as goal

pub returns-then-meets_native : goal.returns-then-meets_native
returns-then-meets_native c =
    let p = c.args.parts.now in
    let over : overlaps_native c.args.parts.now.ram c.args.parts.now.size ≡ true = cc in
    sym (over_native p over)

pub returns-then-not-is_laid : goal.returns-then-not-is_laid
returns-then-not-is_laid c =
    let p = c.args.parts.now in
    let clear : overlaps_native c.args.parts.now.ram c.args.parts.now.size ≡ false = cc in
    let laid : is_laid c.args.parts.now [] (trusted_region c.args.parts.now) ≡ false =
    ap (λ (r : RegionRow). is_laid c.args.parts.now [] r) (sym c.trusted_span-trusted.ensures) ∙ sym c.is_laid.ensures ∙ c.if-not-is_laid.true in
    sym (trusted_astray p clear laid)

pub returns-then-not-is_heap_laid : goal.returns-then-not-is_heap_laid
returns-then-not-is_heap_laid c =
    let p = c.args.parts.now in
    let clear : overlaps_native c.args.parts.now.ram c.args.parts.now.size ≡ false = cc in
    let laid : is_laid c.args.parts.now [] (trusted_region c.args.parts.now) ≡ true =
    ap (λ (r : RegionRow). is_laid c.args.parts.now [] r) (sym c.trusted_span-trusted.ensures) ∙ sym c.is_laid.ensures ∙ c.if-not-is_laid.false in
    sym (heap_astray p clear laid (sym c.is_heap_laid.ensures ∙ c.if-not-is_heap_laid.true))

pub returns-in-Some : goal.returns-in-Some
returns-in-Some c =
    let p = c.args.parts.now in
    let at = c.args.at in
    let clear : overlaps_native c.args.parts.now.ram c.args.parts.now.size ≡ false =
    ap (λ (q : PartsRow). overlaps_native q.ram q.size) (sym c.parts.view_is) ∙ sym c.meets_native.ensures ∙ c.if-meets_native.false in
    let laid : is_laid c.args.parts.now [] (trusted_region c.args.parts.now) ≡ true =
    ap (λ (r : RegionRow). is_laid c.args.parts.now [] r) (sym c.trusted_span-trusted.ensures) ∙ sym c.is_laid.ensures ∙ c.if-not-is_laid.false in
    let found : first (walked (device_asked p) (λ d. DEVICE) at.devices [] p.devices) ≡ Some c.in-Some.place =
    ap (λ (ds : List DeviceRow). first (walked (device_asked p) (λ d. DEVICE) at.devices [] ds)) (sym c.devices_of.ensures) ∙ sym c.devices_fault.ensures ∙ c.in-Some.is in
    sym (beyond p clear laid (sym c.is_heap_laid.ensures ∙ c.if-not-is_heap_laid.false) ∙ ap (λ o. first_some o (first (regions_walk p))) (devices_at p at c.requires.at ∙ found))

pub returns : goal.returns
returns c =
    let p = c.args.parts.now in
    let at = c.args.at in
    let trusted = c.trusted_span-trusted.result in
    let clear : overlaps_native c.args.parts.now.ram c.args.parts.now.size ≡ false =
    ap (λ (q : PartsRow). overlaps_native q.ram q.size) (sym c.parts.view_is) ∙ sym c.meets_native.ensures ∙ c.if-meets_native.false in
    let laid : is_laid c.args.parts.now [] (trusted_region c.args.parts.now) ≡ true =
    ap (λ (r : RegionRow). is_laid c.args.parts.now [] r) (sym c.trusted_span-trusted.ensures) ∙ sym c.is_laid.ensures ∙ c.if-not-is_laid.false in
    let none : first (walked (device_asked p) (λ d. DEVICE) at.devices [] p.devices) ≡ None =
    ap (λ (ds : List DeviceRow). first (walked (device_asked p) (λ d. DEVICE) at.devices [] ds)) (sym c.devices_of.ensures) ∙ sym c.devices_fault.ensures ∙ c.in_default.is in
    let told : c.spans_fault.result ≡ first (walked (span_asked p trusted) (λ s. 0) 0 [] c.in_ok-spans.spans.items) = rw c.as_slice.ensures.value at c.spans_fault.ensures in
    told ∙ ap first (sym (later_asked p trusted c.in_ok-spans.spans.items c.trusted_span-trusted.ensures (c.in_ok-spans.ensures ∙ sym (later_same p))))
    ∙ sym (beyond p clear laid (sym c.is_heap_laid.ensures ∙ c.if-not-is_heap_laid.false) ∙ ap (λ o. first_some o (first (regions_walk p))) (devices_at p at c.requires.at ∙ none))
