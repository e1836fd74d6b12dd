-- `slot_for` meets its contract. A storage that shares nothing joins none; else the two searches answer the definition's two parts.
use mathlib.Core.Path.{sym, ◌∙◌}
use Rattle.turns.proofs.Seeking.{seek_none, seek_copied, seek_fitting}
use Rattle.turns.proofs.marks.slot_for.Goals as goal

pub returns-then-not-tries_slots-clause-joined : goal.returns-then-not-tries_slots-clause-joined
returns-then-not-tries_slots-clause-joined c = λ g x t k. seek_none g _ x _ _ _ _ _ _ _ _ t k (sym c.tries_slots.ensures ∙ c.if-not-tries_slots.true)

pub returns-in-Some-clause-joined : goal.returns-in-Some-clause-joined
returns-in-Some-clause-joined c =
    let shares = sym c.tries_slots.ensures ∙ c.if-not-tries_slots.false in
    λ g x t h.
    seek_copied g _ x _ _ _ _ _ _ _ _ t h _ _ _ _ _ c.key_of.ensures.0 (c.mark-marks.ensures _ h.linked) c.less_from.ensures c.requires.own c.args.slots.now.fits _ shares
    c.in-Some.ensures.first

pub returns-clause-joined : goal.returns-clause-joined
returns-clause-joined c =
    let shares = sym c.tries_slots.ensures ∙ c.if-not-tries_slots.false in
    λ g x t h.
    seek_fitting g _ x _ _ _ _ _ _ _ _ t h _ _ _ _ _ c.key_of.ensures.0 (c.mark-marks.ensures _ h.linked) c.less_from.ensures c.requires.own c.args.slots.now.fits _ shares
    c.in_default.ensures.first c.search-2.ensures.first
