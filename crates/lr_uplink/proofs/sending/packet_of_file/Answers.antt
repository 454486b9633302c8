use Rattle.std.proofs.Common.{◌≡◌, ◌∙◌, ◌<◌, ◌≤◌, ◌+◌, ◌*◌, ◌%◌, ap, ap₂, sym, arith, List, [], ℕ, length, take, drop}
use Rattle.std.proofs.Common.{get_or, subst, suc}
use Rattle.std.specs.Prelude.{All}
use Rattle.std.proofs.lemmas.List.{length-map, get_or-map}
use Rattle.lr_bits.specs.File.{File, bytes_of}
use Rattle.lr_bits.specs.declared.sizes.TheConstants.{SEQUENCE_COUNTS}
use Rattle.lr_bits.specs.Sizes.{most_body_bytes}
use Rattle.lr_make.specs.Packets.{packet_for_body}
use Rattle.lr_uplink.specs.declared.packet.Packet.{Packet}
use Rattle.lr_uplink.specs.Packets.{flags_at, file_packets, idle_packets}
use Rattle.lr_uplink.specs.Pieces.{Carries, IsPacketAt, IsPacketOf}
use Rattle.lr_uplink.proofs.Places.{take_more_of, take_fewer, one_of, body_there, idle_there, file_packets_few}
use Rattle.lr_uplink.proofs.sending.packet_of_file.Goals.{After-byte_count-size}
use Rattle.lr_uplink.proofs.sending.packet_of_file.Goals as goal

-- a body by its place
record Body (file : File) (lengths : List ℕ) (index at : ℕ) : Type 0 where
  inside : index < length file.bodies
  room : at + get_or lengths index 0 ≤ length (bytes_of file)
  short : get_or lengths index 0 ≤ most_body_bytes
  body : take (get_or lengths index 0) (drop at (bytes_of file)) ≡ get_or file.bodies index []

many : (c : After-byte_count-size) → length c.lengths-lengths.result.now ≡ length c.args.file.now.bodies
many c = ap length c.lengths-lengths.ensures.value ∙ length-map c.args.file.now.bodies (length {A = ℕ})

body_of : (c : After-byte_count-size) → c.args.index < length c.lengths-lengths.result.now →
    Body c.args.file.now c.lengths-lengths.result.now c.args.index c.args.at
body_of c h =
    let bodies = c.args.file.now.bodies in
    let index = c.args.index in
    let inside : index < length bodies = omega (arith, h, many c) in
    let size : get_or c.lengths-lengths.result.now index 0 ≡ length (get_or bodies index []) =
    ap (λ ns. get_or ns index 0) c.lengths-lengths.ensures.value ∙ get_or-map length bodies index [] 0 inside in
    record {
      inside = inside;
      room = omega (arith, size, c.requires.at, take_more_of index bodies, take_fewer (suc index) bodies);
      short = omega (arith, size, c.lengths-lengths.ensures.file.short index [] inside);
      body = ap₂ (λ n k. take n (drop k (bytes_of c.args.file.now))) size c.requires.at ∙ one_of index bodies;
    }

-- its packet
body_is : (file : File) (count index apid flags own : ℕ) (bytes body : List ℕ) (packet : Packet) →
    index < length file.bodies → bytes ≡ bytes_of file → apid ≡ file.apid →
    flags ≡ flags_at (length file.bodies) index → own ≡ (count + index) % SEQUENCE_COUNTS →
    body ≡ get_or file.bodies index [] → Carries packet bytes (packet_for_body apid flags own body) →
    IsPacketAt (file_packets count file) (bytes_of file) index packet
body_is file count index apid flags own bytes body packet inside b a f o y carries =
    let there = body_there count file index inside in
    let same : packet_for_body apid flags own body ≡ get_or (file_packets count file) index [] =
    ap₂ (λ n k. packet_for_body n k own body) a f
    ∙ ap₂ (λ n xs. packet_for_body file.apid (flags_at (length file.bodies) index) n xs) o y ∙ sym there.1 in
    record {
      there = there.0;
      carries = subst (λ xs. Carries packet (bytes_of file) xs) same (subst (λ xs. Carries packet xs
          (packet_for_body apid flags own body)) b carries);
    }

pub of_body-requires-clause-inside : goal.of_body-requires-clause-inside
of_body-requires-clause-inside c =
    let b = body_of (goal.at.of_body-requires-clause-inside c).After-byte_count-size c.if-index-bodies.true in
    omega (arith, b.room, ap length c.bytes-bytes.ensures.value)

pub of_body-requires-clause-size : goal.of_body-requires-clause-size
of_body-requires-clause-size c =
    (body_of (goal.at.of_body-requires-clause-size c).After-byte_count-size c.if-index-bodies.true).short

pub returns-then-index-bodies : goal.returns-then-index-bodies
returns-then-index-bodies c =
    let lengths = c.lengths-lengths.result.now in
    let bytes = c.bytes-bytes.result.now in
    let to = (goal.at.returns-then-index-bodies c).After-byte_count-size in
    let b = body_of to c.if-index-bodies.true in
    record {
      packet = body_is c.args.file.now c.args.count c.args.index c.apid.result c.flags_of-flags.result
          ((c.from.result + c.args.index) % c.from-then-index-bodies.result) bytes
          (take (get_or lengths c.args.index 0) (drop c.args.at bytes)) c.of_body.result b.inside
          c.bytes-bytes.ensures.value c.apid.ensures.value
          (c.flags_of-flags.ensures.value ∙ ap (λ n. flags_at n c.args.index) (many to))
          (ap₂ (λ n k. (n + c.args.index) % k) c.from.ensures c.from-then-index-bodies.ensures)
          (ap (λ xs. take (get_or lengths c.args.index 0) (drop c.args.at xs)) c.bytes-bytes.ensures.value ∙ b.body)
          c.of_body.ensures;
      file = c.lengths-lengths.ensures.file;
      bytes = subst (All (λ byte. byte < 256)) c.bytes-bytes.ensures.value c.byte_count-size.ensures.fit;
    }

pub returns-then-index-bodies-2 : goal.returns-then-index-bodies-2
returns-then-index-bodies-2 c =
    let file = c.args.file.now in
    let lengths = c.lengths-lengths.result.now in
    let count = many (goal.at.returns-then-index-bodies-2 c).After-byte_count-size in
    let place : length file.bodies ≡ c.args.index = omega (arith, count, c.if-index-bodies-2.true) in
    let size : c.byte_count-size.result + 8 * length lengths ≡ length (bytes_of file) + 8 * length file.bodies =
    omega (arith, count, c.byte_count-size.ensures.value, ap length c.bytes-bytes.ensures.value) in
    record {
      packet = subst (λ k. IsPacketOf (file_packets c.args.count file) (bytes_of file) k c.filler.result) place
          (idle_there c.args.count file (bytes_of file) (c.byte_count-size.result + 8 * length lengths)
          c.filler.result size
          (subst (λ n. IsPacketOf (idle_packets n) (bytes_of file) 0 c.filler.result)
          c.left_of.ensures.value (c.filler.ensures (bytes_of file))));
      file = c.lengths-lengths.ensures.file;
      bytes = subst (All (λ byte. byte < 256)) c.bytes-bytes.ensures.value c.byte_count-size.ensures.fit;
    }

pub returns : goal.returns
returns c =
    let count = many (goal.at.returns c).After-byte_count-size in
    record {
      packet = omega (
        arith,
        count,
        c.if-index-bodies.false,
        c.if-index-bodies-2.false,
        file_packets_few c.args.count c.args.file.now,
      );
      file = c.lengths-lengths.ensures.file;
      bytes = subst (All (λ byte. byte < 256)) c.bytes-bytes.ensures.value c.byte_count-size.ensures.fit;
    }
