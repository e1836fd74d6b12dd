-- `allocate` meets its contract. The header fits, so that its numbers lie inside the arrays; their front parts are the maps that placing starts from.
use mathlib.Core.Path.{sym, ◌∙◌}
use native.Mathlib.Omega.{arith}
use Rattle.allocator.proofs.Fitting.{first_low, work_low, work_long, app_room, app_long, starts}
use Rattle.allocator.proofs.all.allocate.Goals as goal

pub take_bytes-requires : goal.take_bytes-requires
take_bytes-requires c =
    let h = c.requires.header in
    omega (arith, first_low _ _ _ h _ _ _ c.u16_at-a.ensures c.u16_at-f.ensures c.u16_at-w.ensures)

pub slice_bounds-app-end : goal.slice_bounds-app-end
slice_bounds-app-end c =
    let h = c.requires.header in
    app_room _ _ _ h _ _ _ c.u16_at-a.ensures c.u16_at-f.ensures c.u16_at-w.ensures _ c.take_bytes.ensures

pub slice_bounds-work-end : goal.slice_bounds-work-end
slice_bounds-work-end c =
    let h = c.requires.header in
    work_low _ _ _ h _ _ _ c.u16_at-a.ensures c.u16_at-f.ensures c.u16_at-w.ensures

pub slice_bounds-memory-end : goal.slice_bounds-memory-end
slice_bounds-memory-end c =
    let h = c.requires.header in
    app_long _ _ _ h _ _ _ c.u16_at-a.ensures c.u16_at-f.ensures c.u16_at-w.ensures _ c.take_bytes.ensures

pub slice_bounds-memory-end-2 : goal.slice_bounds-memory-end-2
slice_bounds-memory-end-2 c =
    let h = c.requires.header in
    work_long _ _ _ h _ _ _ c.u16_at-a.ensures c.u16_at-f.ensures c.u16_at-w.ensures

pub returns : goal.returns
returns c =
    let h = c.requires.header in
    let b = c.take_bytes.ensures in
    λ g t lo hi.
    rw (← starts _ _ _ h _ _ _ c.u16_at-a.ensures c.u16_at-f.ensures c.u16_at-w.ensures _ b g _)
    (c.place_all.ensures g t lo (hi ∙ sym c.u16_at-a.ensures ∙ app_long _ _ _ h _ _ _ c.u16_at-a.ensures c.u16_at-f.ensures c.u16_at-w.ensures _ b))
