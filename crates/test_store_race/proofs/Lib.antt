mod Racing
