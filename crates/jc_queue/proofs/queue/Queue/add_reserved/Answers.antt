use Rattle.std.proofs.Common.{◌≡◌, Bool, true, false, not, List, refl, sym, ap, ◌∙◌, subst, arith, true≢false}
use Rattle.std.proofs.lemmas.Bool.{cond-true}
use Rattle.jc_types.specs.declared.objects.KeyNames.{KeyNames as Key}
use Rattle.jc_queue.proofs.QueueFacts.{added_is}
use Rattle.jc_queue.proofs.Steps.{added-parts, comes_in, stays_out}
use Rattle.jc_queue.proofs.queue.Queue.add_reserved.Goals as goal
use Rattle.jc_queue.specs.Queued.{IsQueue, Queued, RoomedQueue, added, has_key, key_set, plus_key, queue_of}

-- A key that was put in anew was not dirty; another was.
absent : (j k again : Key) (keys : List Key) → again ≡ j → k ≡ j → true ≡ not (has_key again keys) → has_key k keys ≡ false
absent j k again keys a e is = by (has_key k keys) (sym is_k)
  where
    is_k : true ≡ not (has_key k keys)
    is_k = is ∙ ap (λ j. not (has_key j keys)) (a ∙ sym e)

    by : (h : Bool) → not h ≡ true → h ≡ false
    by true t = absurd (true≢false (sym t))
    by false t = refl

there : (j again : Key) (keys : List Key) → again ≡ j → false ≡ not (has_key again keys) → has_key j keys ≡ true
there j again keys a is = by (has_key j keys) (sym (is ∙ ap (λ j. not (has_key j keys)) a))
  where
    by : (h : Bool) → not h ≡ false → h ≡ true
    by true t = refl
    by false t = absurd (true≢false t)

-- A key that is processing becomes dirty, and stays out of line.
pub invariant_of-self-then-has_key : goal.invariant_of-self-then-has_key
invariant_of-self-then-has_key c =
    let q : Queued = record { line = c.self.inside.line.items; dirty = key_set c.self.inside.dirty.keys; processing = c.self.inside.processing.items } in
    let k = c.into_keys-key.result.0 in
    let busy : has_key k q.processing ≡ true = sym (c.if-has_key.ensures ∙ ap (λ keys. has_key k keys) c.deref.ensures.value) in
    let put = c.put_in.ensures.set ∙ ap (λ j. plus_key j q.dirty) (c.into_keys-key.ensures.again ∙ sym c.into_keys-key.ensures.key) in
    let clean = absent c.args.key k c.into_keys-key.result.1 q.dirty c.into_keys-key.ensures.again c.into_keys-key.ensures.key c.if-not-put_in.ensures.new in
    let same = added-parts q k q.line (key_set c.put_in.new.set.keys) q.processing clean (stays_out k q.line q.processing busy) put refl in (
      subst IsQueue (sym same) (added_is q k c.self.invariant.0),
      omega (arith, c.self.invariant.1),
      omega (arith, c.self.invariant.2),
      omega (arith, c.self.invariant.3, c.put_in.ensures.room),
    )

-- Another key becomes dirty, and goes to the line's end.
pub invariant_of-self-2 : goal.invariant_of-self-2
invariant_of-self-2 c =
    let q : Queued = record { line = c.self.inside.line.items; dirty = key_set c.self.inside.dirty.keys; processing = c.self.inside.processing.items } in
    let k = c.into_keys-key.result.0 in
    let idle : has_key k q.processing ≡ false = sym (c.if-has_key.ensures ∙ ap (λ keys. has_key k keys) c.deref.ensures.value) in
    let line = comes_in k k q.line q.processing c.push_back_reserved.new.self.items q.line idle refl c.push_back_reserved.ensures.items refl in
    let put = c.put_in.ensures.set ∙ ap (λ j. plus_key j q.dirty) (c.into_keys-key.ensures.again ∙ sym c.into_keys-key.ensures.key) in
    let clean = absent c.args.key k c.into_keys-key.result.1 q.dirty c.into_keys-key.ensures.again c.into_keys-key.ensures.key c.if-not-put_in.ensures.new in
    let same = added-parts q k c.push_back_reserved.new.self.items (key_set c.put_in.new.set.keys) q.processing clean line put refl in
    let room = ap (λ (q : RoomedQueue). q.room) c.self.view_is in (
      subst IsQueue (sym same) (added_is q k c.self.invariant.0),
      omega (arith, c.push_back_reserved.ensures.len, c.push_back_reserved.ensures.capacity, c.self.invariant.1, c.requires.room, room),
      omega (arith, c.push_back_reserved.ensures.len, c.self.invariant.2, c.requires.room, room),
      omega (arith, c.self.invariant.3, c.put_in.ensures.room),
    )

-- A key that was dirty changes nothing.
pub invariant_of-self : goal.invariant_of-self
invariant_of-self c =
    let same = ap key_set (c.put_in.ensures.same c.if-not-put_in.true) in (
      subst (λ keys. IsQueue (queue_of c.self.inside.line.items keys c.self.inside.processing.items)) (sym same) c.self.invariant.0,
      omega (arith, c.self.invariant.1),
      omega (arith, c.self.invariant.2),
      omega (arith, c.self.invariant.3, c.put_in.ensures.room),
    )

pub returns-then-not-put_in-clause-added : goal.returns-then-not-put_in-clause-added
returns-then-not-put_in-clause-added c =
    let q : Queued = queue_of c.self.inside.line.items (key_set c.self.inside.dirty.keys) c.self.inside.processing.items in
    let same = ap key_set (c.put_in.ensures.same c.if-not-put_in.true) in
    ap (λ keys. queue_of c.self.inside.line.items keys c.self.inside.processing.items) same
    ∙ sym (was-there q c.args.key (there c.args.key c.into_keys-key.result.1 q.dirty c.into_keys-key.ensures.again c.if-not-put_in.ensures.new))
    ∙ ap (λ (q : RoomedQueue). added q.queue c.args.key) c.self.view_is
  where
    was-there : (q : Queued) (k : Key) → has_key k q.dirty ≡ true → added q k ≡ q
    was-there q k h = cond-true (has_key k q.dirty) q _ h
