-- Laws of register pops, a turn at a time, and of sums of sp. Assumes nothing.
use Rattle.std.proofs.Common.{◌≡◌, ℕ, suc, ◌+◌, ◌-◌, ◌/◌, ◌%◌, ◌^◌, ◌<◌, ◌≤◌, false, List, set, refl, pow-suc, add-one, arith, eq-eqb, ne_eqb, le-leb, Option, Some, None, Err}
use native.Mathlib.Nat.{div-div-eq-div-mul}
use borrow.Author.Tests.{lt-leb}
use Rattle.section.specs.declared.Addr.{Addr}
use Rattle.section.specs.declared.Refusal.{Refusal}
use Rattle.step.specs.Stack.{stack_word, stack_double}
use Rattle.step.specs.Execute.{next, registers, sp_of, with_sp, up, down, bit, pop_from, pop_regs, vfp_from, pop_vfp}
use Rattle.step.specs.declared.Registers.{Registers}

-- a difference modulo 2 ^ 32, from what wrapping_sub_u32 ensures
pub sub_wraps : (r a b : ℕ) → r < 2 ^ 32 → b < 2 ^ 32 → (r + b) % 2 ^ 32 ≡ a → r ≡ down a b
sub_wraps r a b hr hb e = omega arith

-- the next bit of a mask
pub next_bit : (mask j : ℕ) {m : ℕ} → m ≡ mask / 2 ^ j → m / 2 ≡ mask / 2 ^ (j + 1)
next_bit mask j e = rw (e, add-one j, pow-suc 2 j) (div-div-eq-div-mul mask (2 ^ j) 2)

-- a turn of the mask's loop, at register j, with m the mask from its bit on
module _ (n k : ℕ) (st : List ℕ) (base : Addr) (mask j sp : ℕ) (core : List ℕ) (m : ℕ) (fuel : n ≡ suc k) (at : m ≡ mask / 2 ^ j) where
  pub pop_skip : (m % 2 ≡ 1 → ⊥) → pop_from n st base mask j sp core ≡ pop_from k st base mask (j + 1) sp core
  unfolding pop_from
  pop_skip h = rw (fuel, ← at, ne_eqb (m % 2) 1 h)

  pub pop_load : (v : ℕ) → m % 2 ≡ 1 → stack_word st base sp ≡ Some v → pop_from n st base mask j sp core ≡ pop_from k st base mask (j + 1) (up sp 4) (set core j v)
  unfolding pop_from
  pop_load v h e = rw (fuel, ← at, eq-eqb (m % 2) 1 h, e)

  pub pop_out : m % 2 ≡ 1 → stack_word st base sp ≡ None → pop_from n st base mask j sp core ≡ None
  unfolding pop_from
  pop_out h e = rw (fuel, ← at, eq-eqb (m % 2) 1 h, e)

-- a turn of the VFP loop
module _ (n k : ℕ) (st : List ℕ) (base : Addr) (j sp : ℕ) (vfp : List ℕ) (fuel : n ≡ suc k) where
  pub vfp_load : (v : ℕ) → stack_double st base sp ≡ Some v → vfp_from n st base j sp vfp ≡ vfp_from k st base (j + 1) (up sp 8) (set vfp j v)
  unfolding vfp_from
  vfp_load v e = rw (fuel, e)

  pub vfp_out : stack_double st base sp ≡ None → vfp_from n st base j sp vfp ≡ None
  unfolding vfp_from
  vfp_out e = rw (fuel, e)

-- ---- what is left of a register pop, from register j on
abbrev pub pop_left : List ℕ → Addr → ℕ → ℕ → ℕ → List ℕ → Option (List ℕ × ℕ)
pop_left st base mask j sp core = pop_from (16 - j) st base mask j sp core

module _ (st : List ℕ) (base : Addr) (mask j sp : ℕ) (core : List ℕ) (h : j < 16) where
  turns : 16 - j ≡ suc (16 - (j + 1))
  turns = omega arith

  pub turn_skip : (mask / 2 ^ j % 2 ≡ 1 → ⊥) → pop_left st base mask j sp core ≡ pop_left st base mask (j + 1) sp core
  turn_skip n = pop_skip _ _ st base mask j sp core _ turns refl n

  pub turn_load : (v : ℕ) → mask / 2 ^ j % 2 ≡ 1 → stack_word st base sp ≡ Some v → pop_left st base mask j sp core ≡ pop_left st base mask (j + 1) (up sp 4) (set core j v)
  turn_load v b e = pop_load _ _ st base mask j sp core _ turns refl v b e

  pub turn_out : mask / 2 ^ j % 2 ≡ 1 → stack_word st base sp ≡ None → pop_left st base mask j sp core ≡ None
  turn_out b e = pop_out _ _ st base mask j sp core _ turns refl b e

pub pop_done : (st : List ℕ) (base : Addr) (mask j sp : ℕ) (core : List ℕ) → 16 ≤ j → pop_left st base mask j sp core ≡ Some (core, sp)
unfolding pop_from
pop_done st base mask j sp core h =
    let e : 16 - j ≡ 0 = omega arith in
    rw e

-- ---- what becomes of a register pop
module _ (st : List ℕ) (base : Addr) (r : Registers) (mask : ℕ) where
  pub regs_out : pop_left st base mask 0 (sp_of r.core) r.core ≡ None → pop_regs st base r mask ≡ Err Refusal.Stack
  unfolding pop_regs
  regs_out e = rw e

  module _ (core : List ℕ) (sp : ℕ) (e : pop_left st base mask 0 (sp_of r.core) r.core ≡ Some (core, sp)) where
    -- 13 was loaded
    pub regs_loaded : mask / 2 ^ 13 % 2 ≡ 1 → pop_regs st base r mask ≡ next (registers core r.vfp) (bit mask 15)
    unfolding pop_regs
    regs_loaded h = rw (e, eq-eqb (mask / 2 ^ 13 % 2) 1 h)

    -- it was not
    pub regs_risen : (mask / 2 ^ 13 % 2 ≡ 1 → ⊥) → pop_regs st base r mask ≡ next (registers (with_sp core sp) r.vfp) (bit mask 15)
    unfolding pop_regs
    regs_risen h = rw (e, ne_eqb (mask / 2 ^ 13 % 2) 1 h)

-- ---- what is left of a VFP pop, from register j to before `end`
module _ (st : List ℕ) (base : Addr) (end j sp : ℕ) (vfp : List ℕ) where
  module _ (h : j < end) where
    vfp_turns : end - j ≡ suc (end - (j + 1))
    vfp_turns = omega arith

    pub vfp_turn_load : (v : ℕ) → stack_double st base sp ≡ Some v → vfp_from (end - j) st base j sp vfp ≡ vfp_from (end - (j + 1)) st base (j + 1) (up sp 8) (set vfp j v)
    vfp_turn_load v e = vfp_load _ _ st base j sp vfp vfp_turns v e

    pub vfp_turn_out : stack_double st base sp ≡ None → vfp_from (end - j) st base j sp vfp ≡ None
    vfp_turn_out e = vfp_out _ _ st base j sp vfp vfp_turns e

-- ---- what becomes of a VFP pop
module _ (st : List ℕ) (base : Addr) (r : Registers) (start count : ℕ) where
  pub vfp_over : 32 < start + count → pop_vfp st base r start count ≡ Err Refusal.Regs
  unfolding pop_vfp
  vfp_over h = rw (lt-leb (start + count) 32 h)

  module _ (h : start + count ≤ 32) where
    pub vfp_outside : vfp_from count st base start (sp_of r.core) r.vfp ≡ None → pop_vfp st base r start count ≡ Err Refusal.Stack
    unfolding pop_vfp
    vfp_outside e = rw (le-leb (start + count) 32 h, e)

    pub vfp_loaded : (vfp : List ℕ) (sp : ℕ) → vfp_from count st base start (sp_of r.core) r.vfp ≡ Some (vfp, sp) → pop_vfp st base r start count ≡ next (registers (with_sp r.core sp) vfp) false
    unfolding pop_vfp
    vfp_loaded vfp sp e = rw (le-leb (start + count) 32 h, e)

    -- the same, of what is left from `start` on
    all : start + count - start ≡ count
    all = omega arith

    pub vfp_turn_outside : vfp_from (start + count - start) st base start (sp_of r.core) r.vfp ≡ None → pop_vfp st base r start count ≡ Err Refusal.Stack
    vfp_turn_outside e = vfp_outside (rw all at e)

    pub vfp_turn_loaded : (vfp : List ℕ) (sp : ℕ) → vfp_from (start + count - start) st base start (sp_of r.core) r.vfp ≡ Some (vfp, sp) → pop_vfp st base r start count ≡ next (registers (with_sp r.core sp) vfp) false
    vfp_turn_loaded vfp sp e = vfp_loaded vfp sp (rw all at e)

pub vfp_done : (st : List ℕ) (base : Addr) (n j sp : ℕ) (vfp : List ℕ) → n ≡ 0 → vfp_from n st base j sp vfp ≡ Some (vfp, sp)
unfolding vfp_from
vfp_done st base n j sp vfp e = rw e

pub vfp_turn_done : (st : List ℕ) (base : Addr) (end j sp : ℕ) (vfp : List ℕ) → end ≤ j → vfp_from (end - j) st base j sp vfp ≡ Some (vfp, sp)
vfp_turn_done st base end j sp vfp h = vfp_done st base (end - j) j sp vfp (omega arith)
