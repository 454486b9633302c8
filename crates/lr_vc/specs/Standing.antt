-- What is kept of the frames so far, and the history for which it stands.
use Rattle.std.specs.Prelude.{◌≡◌, ℕ, ◌<◌, ◌≤◌, Bool, true, false, not, ◌&&◌, Option, Some, None, List, [], ◌∷◌, length}
use Rattle.std.specs.Prelude.{drop, map, slice_index_or, ◌==◌}
use Rattle.std.specs.Option.{option_to_list, ForSome}
use Rattle.std.specs.List.{All, filter, list_all}
use Rattle.lr_vc.specs.Frame.{Fields}
use Rattle.lr_vc.specs.Runs.{Run, AreChannelFrames, channel_frames, runs_of}
use Rattle.lr_vc.specs.Packets.{zones_of, pointer_of, is_whole, starts_of, zones_after}
use Rattle.lr_bits.specs.declared.sizes.TheConstants.{FILL_CHANNEL, NO_PACKET_START}

-- What is kept of one channel: the counter of its last frame, and the bytes so far of its open packet
pub record KeptChannel : Type 0 where
  pub counter : Option ℕ
  pub open_packet : Option (List ℕ)

-- and of all channels, by their numbers, with a mark once memory was wanting
pub record KeptChannels : Type 0 where
  pub spent : Bool
  pub channels : List KeptChannel

-- what is kept of a channel without frames
abbrev pub nothing_kept : KeptChannel
nothing_kept = record { counter = None; open_packet = None }

abbrev pub kept_at : List KeptChannel → ℕ → KeptChannel
kept_at channels channel = slice_index_or channels channel nothing_kept

-- memory was wanting in an earlier call
abbrev pub AreChannelsSpent : KeptChannels → Type 0
AreChannelsSpent kept = kept.spent ≡ true

-- an open packet lacks a byte of the longest packet, of 65,542
abbrev pub IsShortPacket : Option (List ℕ) → Type 0
IsShortPacket open_packet = ForSome open_packet (λ bytes. length bytes ≤ 65541)

-- What is kept is small: of 63 channels at most, each with at most one open packet.
pub record IsSmall (channels : List KeptChannel) : Type 0 where
  pub count : length channels ≤ FILL_CHANNEL
  pub short : All (λ channel. IsShortPacket channel.open_packet) channels

-- the counter of the last of these frames
abbrev pub last_counter : List (ℕ × Fields) → Option ℕ
last_counter [] = None
last_counter (f ∷ []) = Some f.1.counter
last_counter (f ∷ g ∷ fs) = last_counter (g ∷ fs)

-- the last run
abbrev pub last_run : List Run → Run
last_run [] = []
last_run (run ∷ []) = run
last_run (run ∷ next ∷ runs) = last_run (next ∷ runs)

-- whether the packet at a start isn't all there yet, and no packet starts in a later zone
unfoldable pub is_open_packet : Run → ℕ → Bool
is_open_packet run start =
    not (is_whole (zones_of run) start) && list_all (λ zone. pointer_of run zone == NO_PACKET_START)
    (zones_after run start)

-- the open packets of a run, each as its bytes so far
unfoldable pub open_packets : Run → List (List ℕ)
open_packets run = map (λ start. drop start (zones_of run)) (filter (is_open_packet run) (starts_of run))

-- What is kept stands for this history of frames: it is, of each channel, the counter of the last frame and the open
-- packet of the last run. So a run has at most one open packet.
pub record ChannelsStandFor (kept : KeptChannels) (history : List Fields) : Type 0 where
  pub frames : AreChannelFrames history
  pub unspent : kept.spent ≡ false
  pub counters : (channel : ℕ) → channel < FILL_CHANNEL →
      (kept_at kept.channels channel).counter ≡ last_counter (channel_frames channel history)
  pub packets : (channel : ℕ) → channel < FILL_CHANNEL →
      option_to_list (kept_at kept.channels channel).open_packet
      ≡ open_packets (last_run (runs_of (channel_frames channel history)))
