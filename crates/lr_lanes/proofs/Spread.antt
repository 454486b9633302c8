-- How far the least costs of two states are from one another: at most six steps of 508, which is 3,048.
use Rattle.std.proofs.Common.{arith, subst, ◌≡◌, ◌+◌, ◌-◌, ◌*◌, ◌/◌, ◌%◌, ◌<◌, ◌≤◌, ℕ, suc, ⊎_elim}
use Rattle.std.proofs.str.Laws.{order}
use Rattle.lr_lanes.specs.declared.lanes.TheConstants.{STEP_COST}
use Rattle.lr_trellis.specs.Trellis.{least_cost}

-- sums of six
at_most_six : (a b d e f g h : ℕ) → b ≤ a + STEP_COST → d ≤ b + STEP_COST → e ≤ d + STEP_COST → f ≤ e + STEP_COST →
    g ≤ f + STEP_COST →
    h ≤ g + STEP_COST → h ≤ a + 3048
at_most_six a b d e f g h l m n o p q = omega arith

less_of : (a b : ℕ) → a ≤ b + 3048 → a - 3048 ≤ b
less_of a b l = omega arith

more_of : (a b : ℕ) → a - 3048 ≤ b → a ≤ b + 3048
more_of a b l = omega arith

module _ (start : ℕ → ℕ) (branch : ℕ → ℕ → ℕ) where
  low_way : (i s : ℕ) → branch i s ≤ STEP_COST →
      least_cost start branch (suc i) s ≤ least_cost start branch i (s / 2) + STEP_COST
  low_way i s l = omega arith

  high_way : (i s : ℕ) → branch i (s + 64) ≤ STEP_COST →
      least_cost start branch (suc i) s ≤ least_cost start branch i (s / 2 + 32) + STEP_COST
  high_way i s l = omega arith

  -- a step from the state t to the state s
  from_state : (i t s : ℕ) → ((m : ℕ) → branch i m ≤ STEP_COST) → t < 64 → t % 32 ≡ s / 2 →
      least_cost start branch (suc i) s ≤ least_cost start branch i t + STEP_COST
  from_state i t s most l e =
      ⊎_elim
      (λ (low : t < 32). let same : s / 2 ≡ t = omega arith in
      subst (λ z. least_cost start branch (suc i) s ≤ least_cost start branch i z + STEP_COST) same
      (low_way i s (most s)))
      (λ (high : 32 ≤ t). let same : s / 2 + 32 ≡ t = omega arith in
      subst (λ z. least_cost start branch (suc i) s ≤ least_cost start branch i z + STEP_COST) same
      (high_way i s (most (s + 64))))
      (order t 32)

  -- a step makes no state cheaper than all were
  floor_kept : (i b : ℕ) → ((t : ℕ) → t < 64 → b ≤ least_cost start branch i t) → (s : ℕ) → s < 64 →
      b ≤ least_cost start branch (suc i) s
  floor_kept i b f s l = omega (arith, f (s / 2) (omega arith), f (s / 2 + 32) (omega arith))

  module _ (i : ℕ) (most : (k m : ℕ) → k < i + 6 → branch k m ≤ STEP_COST) where
    -- six steps from the state t to the state s, a level of s in each
    pub six_steps : (t s : ℕ) → t < 64 → s < 64 →
        least_cost start branch (suc (suc (suc (suc (suc (suc i)))))) s ≤ least_cost start branch i t + 3048
    six_steps t s l m =
        let first = from_state i t (t * 2 % 64 + s / 32) (λ k. most i k (omega arith)) l (omega arith) in
        let second =
        from_state (suc i) (t * 2 % 64 + s / 32) (t * 4 % 64 + s / 16) (λ k. most (suc i) k (omega arith))
        (omega arith) (omega arith) in
        let third =
        from_state (suc (suc i)) (t * 4 % 64 + s / 16) (t * 8 % 64 + s / 8) (λ k. most (suc (suc i)) k (omega arith))
        (omega arith) (omega arith) in
        let fourth =
        from_state (suc (suc (suc i))) (t * 8 % 64 + s / 8) (t * 16 % 64 + s / 4)
        (λ k. most (suc (suc (suc i))) k (omega arith)) (omega arith) (omega arith) in
        let fifth =
        from_state (suc (suc (suc (suc i)))) (t * 16 % 64 + s / 4) (t * 32 % 64 + s / 2)
        (λ k. most (suc (suc (suc (suc i)))) k (omega arith)) (omega arith) (omega arith) in
        let sixth =
        from_state (suc (suc (suc (suc (suc i))))) (t * 32 % 64 + s / 2) s
        (λ k. most (suc (suc (suc (suc (suc i))))) k (omega arith)) (omega arith) (omega arith) in
        at_most_six _ _ _ _ _ _ _ first second third fourth fifth sixth

    floor_six : (b : ℕ) → ((t : ℕ) → t < 64 → b ≤ least_cost start branch i t) → (s : ℕ) → s < 64 →
        b ≤ least_cost start branch (suc (suc (suc (suc (suc (suc i)))))) s
    floor_six b f =
        floor_kept (suc (suc (suc (suc (suc i))))) b (floor_kept (suc (suc (suc (suc i)))) b
        (floor_kept (suc (suc (suc i))) b (floor_kept (suc (suc i)) b (floor_kept (suc i) b (floor_kept i b f)))))

    -- the costs of two states after six steps or more
    pub spread : (s t : ℕ) → s < 64 → t < 64 →
        least_cost start branch (suc (suc (suc (suc (suc (suc i)))))) s ≤
        least_cost start branch (suc (suc (suc (suc (suc (suc i)))))) t + 3048
    spread s t l m =
        let floor : least_cost start branch (suc (suc (suc (suc (suc (suc i)))))) s - 3048 ≤
        least_cost start branch (suc (suc (suc (suc (suc (suc i)))))) t =
        floor_six (least_cost start branch (suc (suc (suc (suc (suc (suc i)))))) s - 3048)
        (λ u n. less_of _ _ (six_steps u s n l)) t m in more_of _ _ floor

-- the same after n steps
pub spread_after : (start : ℕ → ℕ) (branch : ℕ → ℕ → ℕ) (n : ℕ) → 6 ≤ n →
    ((k m : ℕ) → k < n → branch k m ≤ STEP_COST) → (s t : ℕ) → s < 64 → t < 64 →
    least_cost start branch n s ≤ least_cost start branch n t + 3048
spread_after start branch n l most =
    let whole : suc (suc (suc (suc (suc (suc (n - 6)))))) ≡ n = omega arith in
    subst (λ k. (s t : ℕ) → s < 64 → t < 64 → least_cost start branch k s ≤ least_cost start branch k t + 3048) whole
    (spread start branch (n - 6) (λ k m h. most k m (omega arith)))
