-- What is kept stands for the history, and goes on to stand for it with one frame more.
use Rattle.std.proofs.Common.{◌≡◌, ℕ, ◌<◌, false, cond, List, [], ◌∷◌, ◌++◌, length, flat_map, Result, OnOk, is_err}
use Rattle.std.proofs.Common.{sym, ap, ap₂, ◌∙◌, subst, ⊎_elim, arith, true≢false, ltb, Ok, Err}
use Rattle.std.specs.Option.{option_to_list}
use Rattle.std.proofs.lemmas.Bool.{cases_eq}
use Rattle.std.proofs.lemmas.List.Elements.{All-nil, All-push}
use Rattle.lr_bits.specs.declared.sizes.TheConstants.{FILL_CHANNEL, ZONE_BYTES}
use Rattle.lr_vc.specs.Frame.{Fields}
use Rattle.lr_vc.specs.Runs.{AreChannelFrames, channel_frames, runs_of}
use Rattle.lr_vc.specs.Packets.{packets_at}
use Rattle.lr_vc.specs.Standing.{KeptChannels, kept_at, ChannelsStandFor, open_packets, last_run, last_counter}
use Rattle.lr_vc.specs.Steps.{follows, met_by, packets_with, open_after, completed_packet, continued_packet}
use Rattle.lr_vc.specs.Steps.{packets_inside, TakesFrame, opened_packets}
use Rattle.lr_vc.proofs.History.{met, open_none, channel_frames-other, last_counter-own, open_packets-own}
use Rattle.lr_vc.proofs.History.{packets_at-next}

-- what holds of an `Ok` holds where the result is no `Err`
pub at_ok : {T E P : Type 0} (r : Result T E) → is_err r ≡ false → OnOk r P → P
at_ok (Ok x) _ h = h
at_ok (Err x) e _ = absurd (true≢false e)

frames_more : (history : List Fields) (f : Fields) → length f.zone ≡ ZONE_BYTES → AreChannelFrames history →
    AreChannelFrames (history ++ f ∷ [])
frames_more history f long h = All-push (λ f. length f.zone ≡ ZONE_BYTES) history f h long

pub stands_new : (kept : KeptChannels) → kept.spent ≡ false → kept.channels ≡ [] → ChannelsStandFor kept []
unfolding channel_frames runs_of
stands_new kept unspent none =
    record {
      frames = All-nil (λ f. length f.zone ≡ ZONE_BYTES);
      unspent = unspent;
      counters = λ channel _. ap (λ cs. (kept_at cs channel).counter) none;
      packets = λ channel _. ap (λ cs. option_to_list (kept_at cs channel).open_packet) none ∙ sym open_none;
    }

pub stands_fill : (kept : KeptChannels) (history : List Fields) (f : Fields) → f.vc ≡ FILL_CHANNEL
    → length f.zone ≡ ZONE_BYTES →
    ChannelsStandFor kept history → ChannelsStandFor kept (history ++ f ∷ [])
stands_fill kept history f fill long h =
    let same : (channel : ℕ) → channel < FILL_CHANNEL → channel_frames channel history ≡
    channel_frames channel (history ++ f ∷ []) =
    λ channel below. sym (channel_frames-other channel history f (λ e. omega arith)) in
    record {
      frames = frames_more history f long h.frames;
      unspent = h.unspent;
      counters = λ channel below. h.counters channel below ∙ ap last_counter (same channel below);
      packets =
          λ channel below. h.packets channel below ∙ ap (λ cs. open_packets (last_run (runs_of cs)))
          (same channel below);
    }

-- the open packets that the next frame meets are those that are kept
met_is : (kept : KeptChannels) (history : List Fields) (f : Fields) → f.vc < FILL_CHANNEL
    → ChannelsStandFor kept history →
    met_by (kept_at kept.channels f.vc) f.counter ≡ met (channel_frames f.vc history) f.counter
unfolding met_by
met_is kept history f below h =
    ap₂ (λ last os. cond (follows last f.counter) os []) (h.counters f.vc below) (h.packets f.vc below)

pub packets_next : (kept : KeptChannels) (history : List Fields) (f : Fields) → f.vc < FILL_CHANNEL
    → length f.zone ≡ ZONE_BYTES →
    ChannelsStandFor kept history →
    packets_with f (met_by (kept_at kept.channels f.vc) f.counter) ≡ packets_at (history ++ f ∷ []) (length history)
unfolding packets_with
packets_next kept history f below long h =
    ap (λ os. flat_map (completed_packet f.vc f.zone f.pointer) os
    ++ cond (ltb f.pointer ZONE_BYTES) (packets_inside f.vc f.zone f.pointer) []) (met_is kept history f below h)
    ∙ sym (packets_at-next history f h.frames long (λ e. omega arith))

open_next : (kept : KeptChannels) (history : List Fields) (f : Fields) → f.vc < FILL_CHANNEL
    → length f.zone ≡ ZONE_BYTES →
    ChannelsStandFor kept history →
    open_after f (met_by (kept_at kept.channels f.vc) f.counter) ≡
    open_packets (last_run (runs_of (channel_frames f.vc (history ++ f ∷ []))))
unfolding open_after
open_next kept history f below long h =
    ap (λ os. flat_map (continued_packet f.zone f.pointer) os ++ cond (ltb f.pointer ZONE_BYTES) (opened_packets f) [])
    (met_is kept history f below h)
    ∙ sym (open_packets-own history f h.frames long)

pub stands_next : (old new : KeptChannels) (history : List Fields) (f : Fields) → f.vc < FILL_CHANNEL
    → length f.zone ≡ ZONE_BYTES →
    new.spent ≡ false →
    TakesFrame (kept_at old.channels f.vc) (kept_at new.channels f.vc) f →
    ((k : ℕ) → (k ≡ f.vc → ⊥) → kept_at new.channels k ≡ kept_at old.channels k) →
    ChannelsStandFor old history → ChannelsStandFor new (history ++ f ∷ [])
stands_next old new history f below long unspent own others h =
    let Counter : ℕ → Type 0 =
    λ k. (kept_at new.channels k).counter ≡ last_counter (channel_frames k (history ++ f ∷ [])) in
    let Packets : ℕ → Type 0 =
    λ k. option_to_list (kept_at new.channels k).open_packet ≡
    open_packets (last_run (runs_of (channel_frames k (history ++ f ∷ [])))) in
    let own_counter : Counter f.vc = own.counter ∙ sym (last_counter-own history f) in
    let own_packets : Packets f.vc = own.open_packet ∙ open_next old history f below long h in
    record {
      frames = frames_more history f long h.frames;
      unspent = unspent;
      counters = λ k low.
          ⊎_elim (λ e. subst Counter (sym e) own_counter)
          (λ ne. ap (λ c. c.counter) (others k ne) ∙ h.counters k low
          ∙ ap last_counter (sym (channel_frames-other k history f (λ e. ne (sym e)))))
          (cases_eq k f.vc);
      packets = λ k low.
          ⊎_elim (λ e. subst Packets (sym e) own_packets)
          (λ ne. ap (λ c. option_to_list c.open_packet) (others k ne) ∙ h.packets k low
          ∙ ap (λ cs. open_packets (last_run (runs_of cs))) (sym (channel_frames-other k history f (λ e. ne (sym e)))))
          (cases_eq k f.vc);
    }
